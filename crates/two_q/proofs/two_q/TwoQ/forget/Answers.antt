use Rattle.std.proofs.Common.{length, is_some, ap, ◌∙◌, arith}
use Rattle.policy.proofs.Counts.{has_page, length_less_le}
use Rattle.two_q.proofs.two_q.TwoQ.forget.Goals as goal

pub invariant_of-self : goal.invariant_of-self
invariant_of-self c =
    let q = c.args.self.now in
    let b = length_less_le c.args.page q.a1out in
    record { few = q.few; short = omega (arith, q.short, ap length c.remove.ensures.after); once = q.once }

pub returns-clause-answer : goal.returns-clause-answer
returns-clause-answer c = c.is_some.ensures ∙ ap is_some c.remove.ensures.answer ∙ has_page c.args.page c.args.self.now.a1out
