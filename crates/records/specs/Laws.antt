use Rattle.std.specs.Prelude.{◌≡◌, ℕ, List, Ok, Result}
use Rattle.records.specs.declared.malformed.Malformed.{Malformed}
use Rattle.records.specs.declared.record.Record.{Record}
use Rattle.records.specs.declared.record.Record.TheVariants.{Empty, Entered, Settled}
use Rattle.records.specs.Form.{Bytes}
use Rattle.records.specs.Kinds.{BatchFits, FeeFits}
use Rattle.records.specs.Layout.{batch_bytes, batch_of, fee_bytes, fee_of}

-- The fields of a record fit their widths.
abbrev pub RecordFits : {T : Type 0} → (T → Type 0) → Record T → Type 0
RecordFits Fits Empty = Unit {0}
RecordFits Fits (Entered x) = Fits x
RecordFits Fits (Settled x) = Fits x

-- Writing a record in n bytes and reading it are each other's inverse: every record has n bytes, one that
-- fits is read back from them, and n bytes that are read as a record are that record's bytes, and it fits.
pub record Inverse {R : Type 0} (n : ℕ) (Fit : R → Type 0) (bytes : R → List ℕ) (of : List ℕ → Result R Malformed) : Type 0 where
  pub sized : (r : R) → Bytes n (bytes r)
  pub back : (r : R) → Fit r → of (bytes r) ≡ Ok r
  pub only : (bs : List ℕ) → Bytes n bs → (r : R) → of bs ≡ Ok r → bytes r ≡ bs
  pub fits : (bs : List ℕ) → Bytes n bs → (r : R) → of bs ≡ Ok r → Fit r

-- The promise of both kinds.
pub record RoundTrips (n : ℕ) : Type 0 where
  pub batches : Inverse n (RecordFits BatchFits) batch_bytes batch_of
  pub fees : Inverse n (RecordFits FeeFits) fee_bytes fee_of
