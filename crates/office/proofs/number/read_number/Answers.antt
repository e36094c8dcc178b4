use Rattle.std.proofs.Common.{◌+◌, length, sym, ◌∙◌, arith}
use borrow.Author.Tests.{eqb-false}
use Rattle.office.proofs.Reading.{digit_then, digits_all, no_number}
use Rattle.office.proofs.number.read_number.Goals as goal

pub loop-byte-preserved : goal.loop-byte-preserved
loop-byte-preserved c = digit_then c.args.digits.now c.loop-byte.byte-index c.loop-byte.number _ (omega arith) c.loop-byte.invariant c.in_ok-number.ensures

pub returns-in_err-number : goal.returns-in_err-number
returns-in_err-number c =
    let some = eqb-false (length c.args.digits.now) 0 (sym c.is_empty.ensures ∙ c.if-is_empty.false) in
    let gone = digit_then c.args.digits.now c.loop-byte.byte-index c.loop-byte.number _ (omega arith) c.loop-byte.invariant c.in_err-number.ensures in
    c.from_residual.ensures ∙ no_number c.args.digits.now (c.loop-byte.byte-index + 1) some gone

pub returns : goal.returns
returns c = digits_all c.args.digits.now c.loop-byte.byte-index c.loop-byte.number (eqb-false (length c.args.digits.now) 0 (sym c.is_empty.ensures ∙ c.if-is_empty.false)) (omega arith) c.loop-byte.invariant
