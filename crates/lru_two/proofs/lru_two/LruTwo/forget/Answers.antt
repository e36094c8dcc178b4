use Rattle.std.proofs.Common.{◌≡◌, length, Option, ap, ◌∙◌, arith, rules}
use Rattle.std.specs.Option.{option_map_or}
use Rattle.recency.proofs.Pages.{length_less_le}
use Rattle.blocks.specs.declared.block.Block.{Block}
use Rattle.blocks.proofs.Places.{earlier_is}
use Rattle.lru_two.proofs.Laws.{key}
use Rattle.lru_two.proofs.lru_two.LruTwo.forget.Goals as goal

pub invariant_of-self : goal.invariant_of-self
invariant_of-self c =
    let s = c.args.self.now in
    record { few = s.few; short = omega (arith, s.short, ap length c.remove.ensures.after, length_less_le key c.args.page s.retained); once = s.once }

pub returns-clause-answer : goal.returns-clause-answer
returns-clause-answer c =
    let e : c.map_or.result ≡ option_map_or (λ (b : Block). b.hist1) c.remove.result 0 = search rules in
    e ∙ ap (λ (o : Option Block). option_map_or (λ (b : Block). b.hist1) o 0) c.remove.ensures.answer ∙ earlier_is c.args.page c.args.self.now.retained
