use Rattle.std.proofs.Common.{◌≡◌, map, take, Some, None, sym, ap, ◌∙◌, arith}
use Rattle.std.proofs.lemmas.List.{length-take}
use Rattle.recency.specs.Recent.{place_of, found}
use Rattle.recency.proofs.Laws.{nth_front}
use Rattle.recency.proofs.Pages.{at, unplaced}
use Rattle.recency.proofs.table.Table.find.Goals as goal

pub returns-in_err-place : goal.returns-in_err-place
returns-in_err-place g c =
    let key = g.T.Keyed.key in
    let p = c.args.page in
    let none : place_of p (map key c.args.self.now) ≡ None = ap (λ t. place_of p (map key t)) (sym c.as_slice.ensures) ∙ sym c.place_of.ensures.value ∙ c.in_err-place.was in
    c.from_residual.ensures ∙ sym (unplaced key p c.args.self.now none).none

pub returns : goal.returns
returns g c =
    let key = g.T.Keyed.key in
    let p = c.args.page in
    let i = c.in_ok-place.place in
    let xs = c.self.inside.records in
    let n = c.self.inside.len in
    let l = c.self.view_is in
    let some : place_of p (map key (take n xs)) ≡ Some i = ap (λ t. place_of p (map key t)) (l ∙ sym c.as_slice.ensures) ∙ sym c.place_of.ensures.value ∙ c.in_ok-place.was in
    let a = at key p i (take n xs) some in
    sym (a.one ∙ nth_front xs n i _ (omega (arith, a.within, length-take n xs)) (omega (arith, a.within, length-take n xs))) ∙ ap (found key p) l
