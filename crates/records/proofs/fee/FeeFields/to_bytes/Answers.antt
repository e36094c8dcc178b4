use Rattle.std.proofs.Common.{◌≡◌, List, ℕ, ◌++◌, replicate, ◌∙◌}
use borrow.Rule.Slice.PartMut.{put_mid}
use Rattle.records.specs.declared.fee.Fee.{Fee}
use Rattle.records.specs.Kinds.{fee_fields}
use Rattle.records.specs.Little.{bytes_of}
use Rattle.records.proofs.Numbers.{four_bytes, eight_bytes}
use Rattle.records.proofs.fee.FeeFields.to_bytes.Goals as goal

-- The two fields, each put at its place.
placed : (f : Fee) (p q : List ℕ) → p ≡ bytes_of 4 f.batch → q ≡ bytes_of 8 f.amount → put_mid 4 8 (put_mid 0 4 (replicate 32 0) p) q ≡ fee_fields f ++ replicate 20 0
placed f p q d e = λ i. put_mid 4 8 (put_mid 0 4 (replicate 32 0) (d i)) (e i)

pub returns-clause-bytes : goal.returns-clause-bytes
returns-clause-bytes c =
    placed c.args.self _ _
    (c.copy_from_slice.ensures.after ∙ c.to_le_bytes.ensures ∙ four_bytes c.args.self.batch)
    (c.copy_from_slice-2.ensures.after ∙ c.to_le_bytes-2.ensures ∙ eight_bytes c.args.self.amount)
