use Rattle.std.specs.Prelude.{ℕ, ◌+◌, ◌-◌, ◌*◌, Bool, cond, not, List, ◌∷◌, ◌++◌, take, drop, replicate, Some, None, Ok, Err, Option, Result, ◌==◌, nat_lt, slice_index}
use Rattle.records.specs.declared.malformed.Malformed.{Malformed}
use Rattle.records.specs.declared.malformed.Malformed.TheVariants as malformed
use Rattle.records.specs.declared.record.Record.{Record}
use Rattle.records.specs.declared.record.Record.TheVariants.{Empty, Entered, Settled}
use Rattle.records.specs.declared.status.Status.{Status}
use Rattle.records.specs.declared.status.Status.TheVariants as status
use Rattle.records.specs.declared.batch.Batch.{Batch}
use Rattle.records.specs.declared.fee.Fee.{Fee}
use Rattle.records.specs.Little.{blank}
use Rattle.records.specs.Kinds.{batch_fields, batch_in, fee_fields, fee_in}

-- The 32 bytes at a place of a page.
abbrev pub record_in : List ℕ → ℕ → List ℕ
record_in page k = take 32 (drop (k * 32) page)

-- A page of 512 bytes has 16 places.
abbrev pub place_of : List ℕ → ℕ → Option (List ℕ)
place_of page k = cond (nat_lt k 16) (Some (record_in page k)) None

-- The status that a byte names.
abbrev pub known : ℕ → Result Status Malformed
known s = cond (s == 0) (Ok status.Empty) (cond (s == 1) (Ok status.Entered) (cond (s == 2) (Ok status.Settled) (Err (malformed.Status s))))

-- The questions that a status byte s is asked, in their order: is it 0, 1 or 2; are the bytes after it
-- zero (`padded`); is an empty record zero throughout (`bare`).
abbrev pub judged : ℕ → Bool → Bool → Result Status Malformed
judged s padded bare =
    cond (nat_lt 2 s) (Err (malformed.Status s))
    (cond (not padded) (Err malformed.Padding)
    (cond (s == 1) (Ok status.Entered)
    (cond (s == 2) (Ok status.Settled)
    (cond bare (Ok status.Empty)
    (Err malformed.Residue)))))

-- The status of a record that has its status byte at a place.
abbrev pub status_of : ℕ → List ℕ → Result Status Malformed
status_of at bs = judged (slice_index bs at) (blank (drop (at + 1) bs)) (blank bs)

-- The fields of a record that is not empty.
abbrev pub fields_of : {T : Type 0} → Record T → Option T
fields_of Empty = None
fields_of (Entered x) = Some x
fields_of (Settled x) = Some x

-- The record with a status.
abbrev pub by_status : {T : Type 0} → T → Result Status Malformed → Result (Record T) Malformed
by_status x (Ok status.Empty) = Ok Empty
by_status x (Ok status.Entered) = Ok (Entered x)
by_status x (Ok status.Settled) = Ok (Settled x)
by_status x (Err why) = Err why

-- Fields and a status s in 32 bytes: the status stands after the fields, and zeros after it.
abbrev pub with_status : {T : Type 0} → ℕ → (T → List ℕ) → ℕ → T → List ℕ
with_status at bytes s x = bytes x ++ (s ∷ replicate (31 - at) 0)

-- A record in 32 bytes, by where its status stands and the bytes of its fields.
unfoldable pub record_bytes : {T : Type 0} → ℕ → (T → List ℕ) → Record T → List ℕ
record_bytes at bytes Empty = replicate 32 0
record_bytes at bytes (Entered x) = with_status at bytes 1 x
record_bytes at bytes (Settled x) = with_status at bytes 2 x

-- The record in 32 bytes, by where its status stands and how its fields are read.
unfoldable pub record_of : {T : Type 0} → ℕ → (List ℕ → T) → List ℕ → Result (Record T) Malformed
record_of at fields bs = by_status (fields bs) (status_of at bs)

-- A batch has its status after 20 bytes, a fee after 12.
abbrev pub batch_bytes : Record Batch → List ℕ
batch_bytes = record_bytes 20 batch_fields

abbrev pub batch_of : List ℕ → Result (Record Batch) Malformed
batch_of = record_of 20 batch_in

abbrev pub fee_bytes : Record Fee → List ℕ
fee_bytes = record_bytes 12 fee_fields

abbrev pub fee_of : List ℕ → Result (Record Fee) Malformed
fee_of = record_of 12 fee_in
