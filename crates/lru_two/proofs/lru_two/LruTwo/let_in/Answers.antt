use Rattle.std.proofs.Common.{◌≡◌, List, ◌∷◌, length, refl, ap, ◌∙◌, arith}
use Rattle.std.proofs.lemmas.List.{take_all}
use Rattle.policy.specs.Sets.{distinct}
use Rattle.blocks.specs.declared.block.Block.{Block}
use Rattle.blocks.specs.Blocks.{pages}
use Rattle.blocks.proofs.Counts.{distinct_more}
use Rattle.lru_two.proofs.Laws.{models}
use Rattle.lru_two.proofs.lru_two.LruTwo.let_in.Goals as goal

pub invariant_of-self : goal.invariant_of-self
invariant_of-self c =
    let s = c.args.self.now in
    let b : Block = record { page = c.args.page; hist1 = c.args.t; hist2 = c.args.hist2; last = c.args.t } in
    let e : c.push.new.self ≡ b ∷ s.blocks = c.push.ensures ∙ take_all 64 (b ∷ s.blocks) (omega (arith, c.requires.room, s.frames.most)) in
    record {
      few = omega (arith, c.requires.room, ap length e);
      short = s.short;
      once = ap (λ (bs : List Block). distinct (pages bs)) e ∙ distinct_more b s.blocks c.requires.absent s.once;
    }

pub returns : goal.returns
returns c =
    let s = c.args.self.now in
    let b : Block = record { page = c.args.page; hist1 = c.args.t; hist2 = c.args.hist2; last = c.args.t } in
    models (c.push.ensures ∙ take_all 64 (b ∷ s.blocks) (omega (arith, c.requires.room, s.frames.most))) refl
