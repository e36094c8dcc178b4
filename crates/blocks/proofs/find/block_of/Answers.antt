use Rattle.std.proofs.Common.{eqb, ◌∙◌, rules, tests}
use Rattle.std.proofs.lemmas.Iterator.{YieldsList-from_slice}
use Rattle.std.proofs.lemmas.Iterator.Search.{find_from_yields_List}
use Rattle.blocks.specs.declared.block.Block.{Block}
use Rattle.blocks.proofs.Places.{found_first}
use Rattle.blocks.proofs.find.block_of.Goals as goal

pub returns : goal.returns
returns c =
    let bs = c.args.blocks.now in
    c.copied.ensures
    ∙ find_from_yields_List (λ (b : Block). eqb b.page c.args.page) _ _ c.find.result c.find.ensures.ran (YieldsList-from_slice bs c.iter.ensures.rest) (λ x b q k. search (rules, tests))
    ∙ found_first c.args.page bs
