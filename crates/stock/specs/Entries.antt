use Rattle.std.specs.Prelude.{ℕ, List, Some, None, Ok, Err, Option, Result}
use Rattle.records.specs.declared.malformed.Malformed.{Malformed}
use Rattle.records.specs.declared.record.Record.{Record}
use Rattle.records.specs.declared.record.Record.TheVariants.{Empty, Entered, Settled}
use Rattle.records.specs.Layout.{batch_of, fee_of}
use Rattle.stock.specs.declared.book.Book.{Book}
use Rattle.stock.specs.declared.book.Book.TheVariants.{Batch, Fee, Archive}

-- What a record says to a stock-taker: it is in use with its amount, entered or settled, or empty, or malformed.
abbrev pub Entry : Type 0
Entry = Result (Option ℕ) Malformed

abbrev pub of_record : {T : Type 0} → (T → ℕ) → Result (Record T) Malformed → Entry
of_record amount (Ok Empty) = Ok None
of_record amount (Ok (Entered x)) = Ok (Some (amount x))
of_record amount (Ok (Settled x)) = Ok (Some (amount x))
of_record amount (Err e) = Err e

-- The entry that the bytes of a record are in each book: a batch counts with its face value, a fee with
-- its amount; the archive has batch records.
abbrev pub entry_of : Book → List ℕ → Entry
entry_of Batch bs = of_record (λ b. b.face_value) (batch_of bs)
entry_of Fee bs = of_record (λ f. f.amount) (fee_of bs)
entry_of Archive bs = of_record (λ b. b.face_value) (batch_of bs)

abbrev pub used_of : Entry → ℕ
used_of (Ok None) = 0
used_of (Ok (Some a)) = 1
used_of (Err e) = 0

abbrev pub malformed_of : Entry → ℕ
malformed_of (Ok None) = 0
malformed_of (Ok (Some a)) = 0
malformed_of (Err e) = 1

abbrev pub amount_of : Entry → ℕ
amount_of (Ok None) = 0
amount_of (Ok (Some a)) = a
amount_of (Err e) = 0
