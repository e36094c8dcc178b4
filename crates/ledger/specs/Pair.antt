-- What a settlement does under its two grants.
use Rattle.std.specs.Prelude.{◌≡◌, ℕ, Ok, Err, Result}
use Rattle.device.specs.declared.device.Device as device
use Rattle.policy.specs.declared.policy.Policy as policy
use Rattle.book.specs.Book.{with_pages}
use Rattle.records.specs.declared.batch.Batch.{Batch}
use Rattle.records.specs.declared.fee.Fee.{Fee}
use Rattle.pool.specs.Meaning.{book}
use Rattle.pool.specs.declared.pool.Pool.{Pool}
use Rattle.ledger.specs.declared.fault.Fault.{Fault}
use Rattle.ledger.specs.declared.spot.Spot.{Spot}
use Rattle.ledger.specs.Settled.{Open, settled_pages}

-- The pages become the settled ones and nothing else is altered, or nothing at all.
abbrev pub DidPair : {D P : Type 0} {d : device.Ghosts D} {p : policy.Ghosts P} → ℕ → Pool D P d p → Spot → Spot → Result (Batch × Fee) Fault → Pool D P d p → Type 0
DidPair number pool x y (Ok r) pool' = Open number (book pool).pages x y r.0 r.1 × (book pool' ≡ with_pages (book pool) (settled_pages (book pool).pages x y r.0 r.1))
DidPair number pool x y (Err e) pool' = pool' ≡ pool
