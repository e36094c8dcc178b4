-- What reading a whole page through a pool does.
use Rattle.std.specs.Prelude.{◌≡◌, ℕ, ◌+◌, List, Some, None, Ok, Err, Option, Result}
use Rattle.page.specs.declared.refusal.Refusal.{Refusal}
use Rattle.device.specs.declared.device.Device as device
use Rattle.policy.specs.declared.policy.Policy as policy
use Rattle.book.specs.Book.{Book, refusal}
use Rattle.book.specs.Bytes.{bytes_at}
use Rattle.book.specs.Call.Call.{Fix}
use Rattle.book.specs.declared.grant.Kind.TheVariants.{Reading}
use Rattle.pool.specs.Did.{at_time}
use Rattle.pool.specs.Meaning.{book}
use Rattle.pool.specs.Steps.{verdict}
use Rattle.pool.specs.declared.pool.Pool.{Pool}
use Rattle.ledger.specs.Settled.{SameGrants}

-- The buffer has the page's bytes or, on a refusal, what it had.
abbrev pub Filled : Result (Unit {0}) Refusal → (bytes old new : List ℕ) → Type 0
Filled (Ok x) bytes old new = new ≡ bytes
Filled (Err e) bytes old new = new ≡ old

-- The book at the next time; and the book after a reading, by whether the fix was refused.
abbrev pub later : Book → Book
later b = at_time b (b.clock + 1)

abbrev pub after_reading : Book → Option Refusal → Book
after_reading b None = later b
after_reading b (Some r) = b

-- The page is read where its fix is accepted, and then the time alone goes on; no page and no grant is altered.
pub record DidReadPage {D P : Type 0} {d : device.Ghosts D} {p : policy.Ghosts P} (pool : Pool D P d p) (page : ℕ) (old : List ℕ) (r : Result (Unit {0}) Refusal) (pool' : Pool D P d p) (new : List ℕ) : Type 0 where
  pub grants : SameGrants (book pool) (book pool')
  pub pages : (q : ℕ) → (book pool').pages q ≡ (book pool).pages q
  pub answer : r ≡ verdict (refusal (book pool) (Fix Reading page))
  pub buffer : Filled r (bytes_at ((book pool).pages page)) old new
  pub next : book pool' ≡ after_reading (book pool) (refusal (book pool) (Fix Reading page))
