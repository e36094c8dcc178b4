use Rattle.std.proofs.Common.{◌≡◌, ℕ, ◌/◌, ◌≤◌, List, ◌∷◌, length, take, Some, None, sym, refl, ap, ◌∙◌, arith, rules}
use Rattle.std.proofs.lemmas.List.{take-take, length-take}
use Rattle.recency.proofs.Pages.{length_less_le}
use Rattle.policy.specs.Sets.{distinct}
use Rattle.blocks.specs.declared.block.Block.{Block}
use Rattle.blocks.specs.Blocks.{pages, found}
use Rattle.policy.proofs.Counts.{distinct-less}
use Rattle.lru_two.specs.Model.{dropped, gone}
use Rattle.lru_two.specs.Of.{model}
use Rattle.lru_two.proofs.Laws.{key, models, not-found}
use Rattle.lru_two.proofs.lru_two.LruTwo.let_out.Goals as goal

pub invariant_of-self : goal.invariant_of-self
invariant_of-self c =
    let s = c.args.self.now in
    let p = c.in-Some.page in
    let e = c.remove.ensures.after in
    record {
      few = omega (arith, s.few, ap length e, length_less_le key p s.blocks);
      short = s.short;
      once = ap (λ (bs : List Block). distinct (pages bs)) e ∙ distinct-less key p s.blocks s.once;
    }

pub returns-in_default-remove : goal.returns-in_default-remove
returns-in_default-remove c =
    let s = c.args.self.now in
    let p = c.in-Some.page in
    let none : found p s.blocks ≡ None = sym c.remove.ensures.answer ∙ c.in_default-remove.is in
    models (c.remove.ensures.after ∙ (not-found p s.blocks none).same) refl ∙ ap (dropped (model s) p) (sym none) ∙ ap (gone (model s)) (sym c.in-Some.is)

pub invariant_of-self-2 : goal.invariant_of-self-2
invariant_of-self-2 c =
    let s = c.args.self.now in
    let p = c.in-Some.page in
    let e = c.remove.ensures.after in
    record {
      few = omega (arith, s.few, ap length e, length_less_le key p s.blocks);
      short = omega (arith, ap length c.truncate.ensures, length-take (c.value.result / 2) c.push.new.self, ap (λ (n : ℕ). n / 2) c.value.ensures.value);
      once = ap (λ (bs : List Block). distinct (pages bs)) e ∙ distinct-less key p s.blocks s.once;
    }

pub returns : goal.returns
returns c =
    let s = c.args.self.now in
    let p = c.in-Some.page in
    let b = c.in-Some-remove.block in
    let half = s.frames.value / 2 in
    let few : s.frames.value / 2 ≤ 32 = search rules in
    let some : found p s.blocks ≡ Some b = sym c.remove.ensures.answer ∙ c.in-Some-remove.is in
    let kept : c.truncate.new.self ≡ take (s.frames.value / 2) (b ∷ s.retained) =
    c.truncate.ensures ∙ ap (λ (n : ℕ). take (n / 2) c.push.new.self) c.value.ensures.value ∙ ap (take (s.frames.value / 2)) c.push.ensures ∙ take-take (s.frames.value / 2) 32 (b ∷ s.retained) few in
    models c.remove.ensures.after kept ∙ ap (dropped (model s) p) (sym some) ∙ ap (gone (model s)) (sym c.in-Some.is)
