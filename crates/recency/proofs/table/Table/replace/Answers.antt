use Rattle.std.proofs.Common.{◌≡◌, ℕ, map, take, Some, None, sym, ap, ◌∙◌}
use Rattle.recency.specs.Recent.{place_of, renewed}
use Rattle.recency.proofs.Pages.{at, unplaced, take-set}
use Rattle.recency.proofs.table.Table.replace.Goals as goal

pub returns-in-Some : goal.returns-in-Some
returns-in-Some g c =
    let key = g.T.Keyed.key in
    let x = c.args.record in
    let p = key x in
    let i = c.in-Some.place in
    let xs = c.self.inside.records in
    let n = c.self.inside.len in
    let l = c.self.view_is in
    let some : place_of p (map key (take n xs)) ≡ Some i =
    ap (λ (q : ℕ). place_of q (map key (take n xs))) (sym c.page.ensures) ∙ ap (λ t. place_of c.page.result (map key t)) (l ∙ sym c.as_slice.ensures) ∙ sym c.place_of.ensures.value ∙ c.in-Some.is in
    take-set n i xs x ∙ (at key p i (take n xs) some).anew (λ _. x) x ∙ ap (renewed key (λ _. x) p) l

pub returns-in_default : goal.returns-in_default
returns-in_default g c =
    let key = g.T.Keyed.key in
    let x = c.args.record in
    let p = key x in
    let none : place_of p (map key c.args.self.now) ≡ None =
    ap (λ (q : ℕ). place_of q (map key c.args.self.now)) (sym c.page.ensures) ∙ ap (λ t. place_of c.page.result (map key t)) (sym c.as_slice.ensures) ∙ sym c.place_of.ensures.value ∙ c.in_default.is in
    sym ((unplaced key p c.args.self.now none).still (λ _. x))
