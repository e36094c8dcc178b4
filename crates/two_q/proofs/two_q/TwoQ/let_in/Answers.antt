use Rattle.std.proofs.Common.{◌≡◌, ◌∷◌, length, refl, ap, ◌∙◌, arith}
use Rattle.std.proofs.lemmas.List.{take_all}
use Rattle.policy.specs.Sets.{member, count}
use Rattle.two_q.proofs.Counts.{neither, fresh}
use Rattle.two_q.proofs.Models.{models}
use Rattle.two_q.proofs.two_q.TwoQ.let_in.Goals as goal

pub invariant_of-self : goal.invariant_of-self
invariant_of-self c =
    let q = c.args.self.now in
    let p = c.args.page in
    let e : c.push.new.self ≡ p ∷ q.am = c.push.ensures ∙ take_all 64 (p ∷ q.am) (omega (arith, c.requires.room, q.frames.most)) in
    let no = neither (member p q.am) (member p q.a1in) c.requires.absent in
    record {
      few = omega (arith, c.requires.room, ap length e);
      short = q.short;
      once = λ r. omega (arith, ap (count r) e, fresh p q.am q.a1in q.once no.0 no.1 r);
    }

pub returns-then-known : goal.returns-then-known
returns-then-known c =
    let q = c.args.self.now in
    let p = c.args.page in
    let e : c.push.new.self ≡ p ∷ q.am = c.push.ensures ∙ take_all 64 (p ∷ q.am) (omega (arith, c.requires.room, q.frames.most)) in
    rw c.if-known.true (models e refl refl)

pub invariant_of-self-2 : goal.invariant_of-self-2
invariant_of-self-2 c =
    let q = c.args.self.now in
    let p = c.args.page in
    let e : c.push-2.new.self ≡ p ∷ q.a1in = c.push-2.ensures ∙ take_all 64 (p ∷ q.a1in) (omega (arith, c.requires.room, q.frames.most)) in
    let no = neither (member p q.am) (member p q.a1in) c.requires.absent in
    record {
      few = omega (arith, c.requires.room, ap length e);
      short = q.short;
      once = λ r. omega (arith, ap (count r) e, fresh p q.am q.a1in q.once no.0 no.1 r);
    }

pub returns : goal.returns
returns c =
    let q = c.args.self.now in
    let p = c.args.page in
    let e : c.push-2.new.self ≡ p ∷ q.a1in = c.push-2.ensures ∙ take_all 64 (p ∷ q.a1in) (omega (arith, c.requires.room, q.frames.most)) in
    rw c.if-known.false (models refl e refl)
