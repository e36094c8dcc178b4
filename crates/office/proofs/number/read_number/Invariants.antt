use Rattle.std.proofs.Common.{◌≡◌, take, Some, fold}
use Rattle.office.specs.Numbers.{digit_more}
use Rattle.office.proofs.number.read_number.Given as goal

abbrev pub invariant-loop-byte : goal.invariant-loop-byte
invariant-loop-byte l = Some l.number ≡ fold digit_more (Some 0) (take l.byte-index l.digits)
