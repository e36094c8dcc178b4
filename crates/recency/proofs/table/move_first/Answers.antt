use Rattle.std.proofs.Common.{◌≡◌, ℕ, min, map, length, take, Some, None, sym, ap, ◌∙◌, rules}
use Rattle.recency.specs.Recent.{place_of, to_head, moved}
use Rattle.recency.proofs.Laws.{take-cut}
use Rattle.recency.proofs.Pages.{head_moved, none-moved}
use Rattle.recency.proofs.table.move_first.Goals as goal

pub returns-in_default : goal.returns-in_default
returns-in_default g c =
    let key = g.T.Keyed.key in
    let p = c.args.page in
    let n = c.args.len in
    let xs = c.args.records.now in
    let l = c.new-list.ensures.live in
    let none : place_of p (map key (take n xs)) ≡ None = ap (λ t. place_of p (map key t)) (sym l) ∙ sym c.find.ensures.value ∙ c.in_default.is in
    let m : take n c.new-list.result.records.now ≡ moved key p (take n xs) = ap (take n) c.new-list.ensures.slice ∙ sym (none-moved key p (take n xs) none) in
    search rules

pub returns : goal.returns
returns g c =
    let key = g.T.Keyed.key in
    let p = c.args.page in
    let i = c.in-Some.place in
    let n = c.args.len in
    let xs = c.args.records.now in
    let l = c.new-list.ensures.live in
    let did = c.move_to_head.ensures.did in
    let ys = c.move_to_head.new.self.records.now in
    let k : c.move_to_head.new.self.len ≡ min n (length ys) = did.len ∙ c.new-list.ensures.len ∙ ap (λ (k : ℕ). min n k) (sym (did.places ∙ ap length c.new-list.ensures.slice)) in
    let some : place_of p (map key (take n xs)) ≡ Some i = ap (λ t. place_of p (map key t)) (sym l) ∙ sym c.find.ensures.value ∙ c.in-Some.is in
    let m : take n ys ≡ moved key p (take n xs) = sym (ap (λ (k : ℕ). take k ys) k ∙ take-cut n ys) ∙ did.list ∙ ap (λ t. to_head t i) l ∙ head_moved key p i (take n xs) some in
    search rules
