use Rattle.std.proofs.Common.{ℕ, eqb, sym, ◌∙◌, rules, tests}
use Rattle.std.specs.List.{list_any}
use Rattle.std.proofs.lemmas.Iterator.Adapters.{option_map_id, YieldsList-from_rev_slice}
use Rattle.std.proofs.lemmas.Iterator.Consumers.{YieldsList-from_copied}
use Rattle.std.proofs.lemmas.Iterator.Search.{find_from_yields_List}
use Rattle.recency.proofs.Pages.{any_member}
use Rattle.two_q.proofs.Tails.{tail_found}
use Rattle.two_q.proofs.nearest.latest.Goals as goal

pub returns : goal.returns
returns c =
    let l = c.args.listed.now in
    let xs = c.args.list.now in
    sym (option_map_id c.find.result)
    ∙ find_from_yields_List (λ (x : ℕ). list_any (λ (y : ℕ). eqb y x) l) _ _ c.find.result c.find.ensures.ran (YieldsList-from_copied (YieldsList-from_rev_slice xs cc)) (λ x b q k. search (rules, tests))
    ∙ tail_found (λ (x : ℕ). list_any (λ (y : ℕ). eqb y x) l) l (λ x. any_member x l) xs
