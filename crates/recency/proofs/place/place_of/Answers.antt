use Rattle.std.proofs.Common.{eqb, map, sym, ◌∙◌, subst, rules, tests}
use Rattle.std.proofs.lemmas.Iterator.{YieldsList-from_slice}
use Rattle.std.proofs.lemmas.Iterator.Adapters.{position_from-zero}
use Rattle.std.proofs.lemmas.Iterator.Search.{position_from_yields_List}
use Rattle.recency.specs.Recent.{Nearest}
use Rattle.recency.proofs.Places.{place_from, nearest}
use Rattle.recency.proofs.place.place_of.Goals as goal

place : goal.returns-clause-value
place g c =
    let f = g.T.Keyed.key in
    let xs = c.args.records.now in
    position_from_yields_List (λ x. eqb (f x) c.args.page) _ _ c.position.result c.position.ensures.ran (YieldsList-from_slice xs c.iter.ensures.rest) (λ x b q k. search (rules, tests))
    ∙ position_from-zero (λ x. eqb (f x) c.args.page) xs ∙ place_from f c.args.page xs

pub returns-clause-value : goal.returns-clause-value
returns-clause-value g c = place g c

pub returns-clause-nearest : goal.returns-clause-nearest
returns-clause-nearest g c =
    let p = c.args.page in
    let ks = map g.T.Keyed.key c.args.records.now in
    subst (Nearest p ks) (sym (place g c)) (nearest p ks)
