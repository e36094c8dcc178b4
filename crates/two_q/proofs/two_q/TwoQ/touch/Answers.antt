use Rattle.std.proofs.Common.{◌≡◌, length, refl, ap, ◌∙◌, arith}
use Rattle.policy.specs.Sets.{count}
use Rattle.two_q.specs.Lists.{moved}
use Rattle.two_q.proofs.Counts.{length_moved, count-moved}
use Rattle.two_q.proofs.Models.{models}
use Rattle.two_q.proofs.Pages.{moved_is}
use Rattle.two_q.proofs.two_q.TwoQ.touch.Goals as goal

pub invariant_of-self : goal.invariant_of-self
invariant_of-self c =
    let q = c.args.self.now in
    let p = c.args.page in
    let e : c.raise.new.self ≡ moved p q.am = c.raise.ensures ∙ moved_is p q.am in
    record {
      few = omega (arith, q.few, ap length e, length_moved p q.am);
      short = q.short;
      once = λ r. omega (arith, q.once r, ap (count r) e, count-moved p r q.am);
    }

pub returns : goal.returns
returns c = models (c.raise.ensures ∙ moved_is c.args.page c.args.self.now.am) refl refl
