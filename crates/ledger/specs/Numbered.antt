-- Settling a batch by its number.
use Rattle.std.specs.Prelude.{◌≡◌, ℕ, IfOk, Some, None, Err, Option, Result}
use Rattle.device.specs.declared.device.Device as device
use Rattle.policy.specs.declared.policy.Policy as policy
use Rattle.book.specs.Book.{Book}
use Rattle.records.specs.declared.batch.Batch.{Batch}
use Rattle.records.specs.declared.fee.Fee.{Fee}
use Rattle.pool.specs.Meaning.{book}
use Rattle.pool.specs.declared.pool.Pool.{Pool}
use Rattle.ledger.specs.declared.fault.Fault.{Fault}
use Rattle.ledger.specs.declared.fault.Fault.TheVariants as fault
use Rattle.ledger.specs.declared.finding.Kept.TheVariants.{Batches, Fees}
use Rattle.ledger.specs.declared.numbered.Shelves.{Shelves}
use Rattle.ledger.specs.declared.spot.Spot.{Spot}
use Rattle.ledger.specs.Answered.{settlement}
use Rattle.ledger.specs.Finding.{shelf_search}
use Rattle.ledger.specs.Settled.{DidSettle}

-- The searches for a batch, and then for its fee in the book as the first one left it.
abbrev pub batch_search : Shelves → ℕ → Book → Option Spot × Book
batch_search s number b = shelf_search b (record { kept = Batches; first = 0; end = s.fees_from }) number

abbrev pub fee_search : Shelves → ℕ → Book → Option Spot × Book
fee_search s number b = shelf_search b (record { kept = Fees; first = s.fees_from; end = s.fees_to }) number

-- What is answered once the fee was searched for, and once the batch was.
abbrev pub with_fee : ℕ → Spot → Option Spot × Book → Result (Batch × Fee) Fault
with_fee number x (None, b) = Err fault.NoFee
with_fee number x (Some y, b) = settlement number b x y

abbrev pub with_batch : Shelves → ℕ → Option Spot × Book → Result (Batch × Fee) Fault
with_batch s number (None, b) = Err fault.NoBatch
with_batch s number (Some x, b) = with_fee number x (fee_search s number b)

-- The batch and its fee that were found.
pub record Found (s : Shelves) (number : ℕ) (b : Book) (x y : Spot) : Type 0 where
  pub batch : (batch_search s number b).0 ≡ Some x
  pub fee : (fee_search s number (batch_search s number b).1).0 ≡ Some y

-- The answer is that of the two searches and of a settlement where they end; the batch and the fee that
-- were found were settled there, or nothing was.
pub record DidSettleNumber {D P : Type 0} {d : device.Ghosts D} {p : policy.Ghosts P} (s : Shelves) (number : ℕ) (pool : Pool D P d p) (r : Result (Batch × Fee) Fault) (pool' : Pool D P d p) : Type 0 where
  pub answer : r ≡ with_batch s number (batch_search s number (book pool))
  pub batch : Spot
  pub fee : Spot
  pub found : IfOk r (λ x. Found s number (book pool) batch fee)
  pub did : DidSettle number pool batch fee r pool'
