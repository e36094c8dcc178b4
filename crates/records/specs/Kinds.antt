use Rattle.std.specs.Prelude.{ℕ, ◌^◌, ◌<◌, List, ◌++◌}
use Rattle.records.specs.declared.batch.Batch.{Batch}
use Rattle.records.specs.declared.fee.Fee.{Fee}
use Rattle.records.specs.Little.{bytes_of, field}

-- A batch in 20 bytes.
abbrev pub batch_fields : Batch → List ℕ
batch_fields b = bytes_of 4 b.number ++ (bytes_of 4 b.grocer ++ (bytes_of 4 b.coupons ++ bytes_of 8 b.face_value))

-- The batch in the bytes of a record.
abbrev pub batch_in : List ℕ → Batch
batch_in bs = record { number = field 0 4 bs; grocer = field 4 4 bs; coupons = field 8 4 bs; face_value = field 12 8 bs }

-- The numbers of a batch fit their widths.
pub record BatchFits (b : Batch) : Type 0 where
  pub number_fits : b.number < 2 ^ 32
  pub grocer_fits : b.grocer < 2 ^ 32
  pub coupons_fits : b.coupons < 2 ^ 32
  pub face_value_fits : b.face_value < 2 ^ 64

-- A fee in 12 bytes.
abbrev pub fee_fields : Fee → List ℕ
fee_fields f = bytes_of 4 f.batch ++ bytes_of 8 f.amount

-- The fee in the bytes of a record.
abbrev pub fee_in : List ℕ → Fee
fee_in bs = record { batch = field 0 4 bs; amount = field 4 8 bs }

-- The numbers of a fee fit their widths.
pub record FeeFits (f : Fee) : Type 0 where
  pub batch_fits : f.batch < 2 ^ 32
  pub amount_fits : f.amount < 2 ^ 64
