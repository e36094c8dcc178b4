use Rattle.std.proofs.Common.{Some, None, Option, sym, ◌∙◌, subst, rules, tests}
use Rattle.std.proofs.lemmas.Iterator.{YieldsList-from_slice}
use Rattle.std.proofs.lemmas.Iterator.Consumers.{YieldsList-from_filter, fold_from_yields_List}
use Rattle.blocks.specs.declared.block.Block.{Block}
use Rattle.blocks.specs.Blocks.{candidate, lesser}
use Rattle.blocks.specs.First.{FirstAmong}
use Rattle.blocks.proofs.Scans.{scan-first, scan_folds}
use Rattle.blocks.proofs.scan.first_to_leave.Goals as goal

value : goal.returns-clause-value
value c =
    let ok = candidate c.args.listed.now c.args.period c.args.t in
    let bs = c.args.blocks.now in
    fold_from_yields_List _ (λ (o : Option Block) (b : Block). Some (lesser o b)) None c.fold.result c.fold.ensures.ran
    (YieldsList-from_filter _ ok (YieldsList-from_slice bs cc) c.filter.ensures.closure (λ x b q k. search (rules, tests))) (λ a x b q k. search (rules, tests))
    ∙ scan_folds ok None bs

pub returns-clause-value : goal.returns-clause-value
returns-clause-value c = value c

pub returns-clause-first : goal.returns-clause-first
returns-clause-first c =
    let ok = candidate c.args.listed.now c.args.period c.args.t in
    let bs = c.args.blocks.now in
    subst (λ (o : Option Block). FirstAmong bs ok o) (sym (value c)) (scan-first ok bs)
