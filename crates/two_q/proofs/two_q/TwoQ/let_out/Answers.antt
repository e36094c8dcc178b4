use Rattle.std.proofs.Common.{◌≡◌, ◌/◌, ◌≤◌, ◌∷◌, true, false, length, take, is_some, sym, refl, ap, ◌∙◌, arith, rules}
use Rattle.std.proofs.lemmas.List.{take-take, length-take}
use Rattle.policy.specs.Sets.{member, count}
use Rattle.policy.proofs.Counts.{has_page, none-less, length_less_le, count_less_le}
use Rattle.two_q.specs.Model.{gone}
use Rattle.two_q.specs.Of.{model}
use Rattle.two_q.proofs.Counts.{gone-a1in, gone_am}
use Rattle.two_q.proofs.Models.{models}
use Rattle.two_q.proofs.two_q.TwoQ.let_out.Goals as goal

pub invariant_of-self : goal.invariant_of-self
invariant_of-self c =
    let q = c.args.self.now in
    let p = c.in-Some.page in
    let e = c.remove.ensures.after in
    record {
      few = omega (arith, q.few, ap length e, length_less_le p q.am);
      short = q.short;
      once = λ r. omega (arith, q.once r, ap (count r) e, count_less_le p r q.am);
    }

pub returns-then-is_some : goal.returns-then-is_some
returns-then-is_some c =
    let q = c.args.self.now in
    let p = c.in-Some.page in
    let here : member p q.am ≡ true = sym (has_page p q.am) ∙ ap is_some (sym c.remove.ensures.answer) ∙ sym c.is_some.ensures ∙ c.if-is_some.true in
    models c.remove.ensures.after refl refl ∙ sym (gone_am (model q) p here) ∙ ap (gone (model q)) (sym c.in-Some.is)

pub invariant_of-self-2 : goal.invariant_of-self-2
invariant_of-self-2 c =
    let q = c.args.self.now in
    let p = c.in-Some.page in
    let e = c.remove.ensures.after in
    let f = c.remove-2.ensures.after in
    record {
      few = omega (arith, q.few, ap length e, length_less_le p q.am, ap length f, length_less_le p q.a1in);
      short = omega (arith, ap length c.truncate.ensures, length-take c.kout-kout.result c.push.new.self, c.kout-kout.ensures);
      once = λ r. omega (arith, q.once r, ap (count r) e, count_less_le p r q.am, ap (count r) f, count_less_le p r q.a1in);
    }

pub returns : goal.returns
returns c =
    let q = c.args.self.now in
    let p = c.in-Some.page in
    let away : member p q.am ≡ false = sym (has_page p q.am) ∙ ap is_some (sym c.remove.ensures.answer) ∙ sym c.is_some.ensures ∙ c.if-is_some.false in
    let few : q.frames.value / 2 ≤ 32 = search rules in
    let kept : c.truncate.new.self ≡ take (q.frames.value / 2) (p ∷ q.a1out) =
    c.truncate.ensures ∙ ap (λ k. take k c.push.new.self) c.kout-kout.ensures ∙ ap (take (q.frames.value / 2)) c.push.ensures ∙ take-take (q.frames.value / 2) 32 (p ∷ q.a1out) few in
    models (c.remove.ensures.after ∙ sym (none-less p q.am away)) c.remove-2.ensures.after kept ∙ sym (gone-a1in (model q) p away) ∙ ap (gone (model q)) (sym c.in-Some.is)
