use Rattle.std.proofs.Common.{◌≡◌, List, ℕ, ◌++◌, replicate, ◌∙◌}
use borrow.Rule.Slice.PartMut.{put_mid}
use Rattle.records.specs.declared.batch.Batch.{Batch}
use Rattle.records.specs.Kinds.{batch_fields}
use Rattle.records.specs.Little.{bytes_of}
use Rattle.records.proofs.Numbers.{four_bytes, eight_bytes}
use Rattle.records.proofs.batch.BatchFields.to_bytes.Goals as goal

-- The four fields, each put at its place.
placed : (b : Batch) (p q r t : List ℕ) → p ≡ bytes_of 4 b.number → q ≡ bytes_of 4 b.grocer → r ≡ bytes_of 4 b.coupons → t ≡ bytes_of 8 b.face_value → put_mid 12 8 (put_mid 8 4 (put_mid 4 4 (put_mid 0 4 (replicate 32 0) p) q) r) t ≡ batch_fields b ++ replicate 12 0
placed b p q r t e f g h = λ i. put_mid 12 8 (put_mid 8 4 (put_mid 4 4 (put_mid 0 4 (replicate 32 0) (e i)) (f i)) (g i)) (h i)

pub returns-clause-bytes : goal.returns-clause-bytes
returns-clause-bytes c =
    placed c.args.self _ _ _ _
    (c.copy_from_slice.ensures.after ∙ c.to_le_bytes.ensures ∙ four_bytes c.args.self.number)
    (c.copy_from_slice-2.ensures.after ∙ c.to_le_bytes-2.ensures ∙ four_bytes c.args.self.grocer)
    (c.copy_from_slice-3.ensures.after ∙ c.to_le_bytes-3.ensures ∙ four_bytes c.args.self.coupons)
    (c.copy_from_slice-4.ensures.after ∙ c.to_le_bytes-4.ensures ∙ eight_bytes c.args.self.face_value)
