-- What settling a batch and its fee does to the books.
use Rattle.std.specs.Prelude.{◌≡◌, ℕ, ◌*◌, ◌≤◌, List, take, drop, Ok, Err, Result}
use Rattle.device.specs.Row.{Row, written}
use Rattle.device.specs.declared.device.Device as device
use Rattle.policy.specs.declared.policy.Policy as policy
use Rattle.book.specs.Book.{Book}
use Rattle.book.specs.Bytes.{bytes_at, patched}
use Rattle.records.specs.Layout.{batch_bytes, batch_of, fee_bytes, fee_of}
use Rattle.records.specs.declared.batch.Batch.{Batch}
use Rattle.records.specs.declared.record.Record.TheVariants.{Entered, Settled}
use Rattle.records.specs.declared.fee.Fee.{Fee}
use Rattle.pool.specs.Meaning.{book}
use Rattle.pool.specs.declared.pool.Pool.{Pool}
use Rattle.ledger.specs.declared.fault.Fault.{Fault}
use Rattle.ledger.specs.declared.spot.Spot.{Spot}

-- The 32 bytes of a record, and the pages with other bytes there and nothing else altered.
abbrev pub bytes_in : Row → (page place : ℕ) → List ℕ
bytes_in pages page place = take 32 (drop (place * 32) (bytes_at (pages page)))

abbrev pub recorded : Row → (page place : ℕ) → List ℕ → Row
recorded pages page place new = written pages page (patched (place * 32) new (bytes_at (pages page)))

-- The pages once a batch and its fee are settled: these two records, and no other byte.
abbrev pub settled_pages : Row → (batch fee : Spot) → Batch → Fee → Row
settled_pages pages x y b f = recorded (recorded pages x.page x.place (batch_bytes (Settled b))) y.page y.place (fee_bytes (Settled f))

-- A batch with a number and its fee may be settled: both are entered and not settled, the fee is the
-- batch's, and it is not above the value.
pub record Open (number : ℕ) (pages : Row) (x y : Spot) (b : Batch) (f : Fee) : Type 0 where
  pub batch : batch_of (bytes_in pages x.page x.place) ≡ Ok (Entered b)
  pub fee : fee_of (bytes_in pages y.page y.place) ≡ Ok (Entered f)
  pub named : b.number ≡ number
  pub same : f.batch ≡ b.number
  pub within : f.amount ≤ b.face_value

-- The same grants are out.
pub record SameGrants (b b' : Book) : Type 0 where
  pub reading : (q : ℕ) → b'.reading q ≡ b.reading q
  pub updating : (q : ℕ) → b'.updating q ≡ b.updating q

-- What an accepted settlement did, and what a refused one: every byte is then as it was.
abbrev pub Pages : ℕ → Row → Spot → Spot → Result (Batch × Fee) Fault → Row → Type 0
Pages number pages x y (Ok r) pages' = Open number pages x y r.0 r.1 × ((q : ℕ) → pages' q ≡ settled_pages pages x y r.0 r.1 q)
Pages number pages x y (Err e) pages' = (q : ℕ) → pages' q ≡ pages q

pub record DidSettle {D P : Type 0} {d : device.Ghosts D} {p : policy.Ghosts P} (number : ℕ) (pool : Pool D P d p) (x y : Spot) (r : Result (Batch × Fee) Fault) (pool' : Pool D P d p) : Type 0 where
  pub grants : SameGrants (book pool) (book pool')
  pub pages : Pages number (book pool).pages x y r (book pool').pages
