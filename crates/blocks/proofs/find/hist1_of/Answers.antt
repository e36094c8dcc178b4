use Rattle.std.proofs.Common.{◌≡◌, ap, ◌∙◌, rules}
use Rattle.std.specs.Option.{option_map_or}
use Rattle.blocks.specs.declared.block.Block.{Block}
use Rattle.blocks.proofs.Places.{earlier_is}
use Rattle.blocks.proofs.find.hist1_of.Goals as goal

pub returns : goal.returns
returns c =
    let e : c.map_or.result ≡ option_map_or (λ (b : Block). b.hist1) c.block_of.result 0 = search rules in
    e ∙ ap (λ o. option_map_or (λ (b : Block). b.hist1) o 0) c.block_of.ensures ∙ earlier_is c.args.page c.args.blocks.now
