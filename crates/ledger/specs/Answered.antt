-- What a settlement is answered, by the page book.
use Rattle.std.specs.Prelude.{ℕ, ◌+◌, ◌*◌, cond, List, Some, None, Ok, Err, Option, Result, ◌==◌, nat_le}
use Rattle.page.specs.declared.refusal.Refusal.{Refusal}
use Rattle.page.specs.declared.refusal.Refusal.TheVariants.{PastPageEnd}
use Rattle.device.specs.Row.{Row}
use Rattle.book.specs.Book.{Book, refusal, next}
use Rattle.book.specs.Call.Call.{Fix}
use Rattle.book.specs.declared.grant.Kind.TheVariants.{Updating}
use Rattle.records.specs.Layout.{batch_of, fee_of}
use Rattle.records.specs.declared.batch.Batch.{Batch}
use Rattle.records.specs.declared.record.Record.{Record}
use Rattle.records.specs.declared.record.Record.TheVariants.{Empty, Entered, Settled}
use Rattle.records.specs.declared.fee.Fee.{Fee}
use Rattle.records.specs.declared.malformed.Malformed.{Malformed}
use Rattle.ledger.specs.declared.fault.Fault.{Fault}
use Rattle.ledger.specs.declared.fault.Fault.TheVariants as fault
use Rattle.ledger.specs.declared.spot.Spot.{Spot}
use Rattle.ledger.specs.Settled.{bytes_in}

-- The 32 bytes at a spot; a place past the end of its page is refused.
abbrev pub seen_at : Row → (page place : ℕ) → Result (List ℕ) Fault
seen_at pages page place = cond (nat_le (place * 32 + 32) 512) (Ok (bytes_in pages page place)) (Err (fault.Refused page PastPageEnd))

-- What a record has that is entered and not settled, by the faults of one that is empty or settled.
abbrev pub open_record : {T : Type 0} → Fault → Fault → ℕ → Result (Record T) Malformed → Result T Fault
open_record empty settled page (Ok Empty) = Err empty
open_record empty settled page (Ok (Entered x)) = Ok x
open_record empty settled page (Ok (Settled x)) = Err settled
open_record empty settled page (Err m) = Err (fault.Malformed page m)

abbrev pub open_batch : ℕ → Result (Record Batch) Malformed → Result Batch Fault
open_batch = open_record fault.NoBatch fault.SettledBatch

abbrev pub open_fee : ℕ → Result (Record Fee) Malformed → Result Fee Fault
open_fee = open_record fault.NoFee fault.SettledFee

-- Whether a batch has the number, and a fee is its and not above its value.
abbrev pub fitting : ℕ → Batch → Fee → Result (Unit {0}) Fault
fitting number b f =
    cond (b.number == number)
    (cond (f.batch == b.number) (cond (nat_le f.amount b.face_value) (Ok tt) (Err fault.FeeAboveValue)) (Err (fault.OtherBatch f.batch)))
    (Err (fault.OtherBatch b.number))

-- The first fault decides.
abbrev pub then : {A B : Type 0} → Result A Fault → (A → Result B Fault) → Result B Fault
then (Ok a) f = f a
then (Err e) f = Err e

-- A batch and its fee that may be settled, or why they may not.
abbrev pub open_pair : ℕ → Row → Spot → Spot → Result (Batch × Fee) Fault
open_pair number pages x y =
    then (seen_at pages x.page x.place) (λ xs.
    then (seen_at pages y.page y.place) (λ ys.
    then (open_batch x.page (batch_of xs)) (λ b.
    then (open_fee y.page (fee_of ys)) (λ f.
    then (fitting number b f) (λ _. Ok (b, f))))))

-- What a fix of a page is refused, if it is.
abbrev pub or_refused : {A : Type 0} → ℕ → Option Refusal → Result A Fault → Result A Fault
or_refused page None r = r
or_refused page (Some e) r = Err (fault.Refused page e)

-- Both pages are fixed for update, the batch's first; then both records are looked at.
abbrev pub settlement : ℕ → Book → Spot → Spot → Result (Batch × Fee) Fault
settlement number b x y =
    or_refused x.page (refusal b (Fix Updating x.page))
    (or_refused y.page (refusal (next b (Fix Updating x.page)) (Fix Updating y.page)) (open_pair number b.pages x y))
