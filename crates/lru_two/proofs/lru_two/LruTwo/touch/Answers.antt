use Rattle.std.proofs.Common.{◌≡◌, List, length, is_some, sym, refl, ap, ◌∙◌, arith}
use Rattle.std.proofs.lemmas.Bool.{true≢false}
use Rattle.recency.proofs.Pages.{has_record, length-renewed}
use Rattle.policy.specs.Sets.{distinct}
use Rattle.blocks.specs.declared.block.Block.{Block}
use Rattle.blocks.specs.Blocks.{pages, renewed, refreshed}
use Rattle.blocks.proofs.Counts.{pages-renewed, same-page}
use Rattle.lru_two.specs.Of.{model}
use Rattle.lru_two.proofs.Laws.{key, models, replaced-by, not-found}
use Rattle.lru_two.proofs.lru_two.LruTwo.touch.Goals as goal

pub returns-in_default : goal.returns-in_default
returns-in_default c =
    let s = c.args.self.now in
    let none = sym c.find.ensures ∙ c.in_default.is in
    record {
      answer = sym (ap is_some none) ∙ has_record key c.args.page s.blocks;
      after = models (sym ((not-found c.args.page s.blocks none).still (refreshed s.crp c.args.t))) refl;
      refused = λ _. refl;
    }

pub invariant_of-self : goal.invariant_of-self
invariant_of-self c =
    let s = c.args.self.now in
    let p = c.args.page in
    let f = refreshed s.crp c.args.t in
    let e : c.replace.new.self ≡ renewed f p s.blocks = c.replace.ensures ∙ replaced-by (model s) p c.args.t c.in-Some.block c.refreshed.result (sym c.find.ensures ∙ c.in-Some.is) c.refreshed.ensures in
    record {
      few = omega (arith, s.few, ap length e, length-renewed key f p s.blocks);
      short = s.short;
      once = ap (λ (bs : List Block). distinct (pages bs)) e ∙ ap distinct (pages-renewed f (same-page s.crp c.args.t) p s.blocks) ∙ s.once;
    }

pub returns : goal.returns
returns c =
    let s = c.args.self.now in
    let some = sym c.find.ensures ∙ c.in-Some.is in
    record {
      answer = sym (ap is_some some) ∙ has_record key c.args.page s.blocks;
      after = models (c.replace.ensures ∙ replaced-by (model s) c.args.page c.args.t c.in-Some.block c.refreshed.result some c.refreshed.ensures) refl;
      refused = λ no. absurd (true≢false no);
    }
