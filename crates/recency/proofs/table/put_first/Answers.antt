use Rattle.std.proofs.Common.{◌≡◌, ◌≤◌, ◌∷◌, length, take, refl, ap, ◌∙◌, arith, rules}
use Rattle.recency.specs.Calls.{live, room}
use Rattle.recency.proofs.Pages.{pushed}
use Rattle.recency.proofs.table.put_first.Goals as goal

pub returns : goal.returns
returns g c =
    let xs = c.args.records.now in
    let n = c.args.len in
    let x = c.args.record in
    let l = c.new-list.ensures.live in
    let did = c.put.ensures.did in
    let e = c.saturating_sub.ensures in
    let r : room c.new-list.result ≡ length xs = ap length c.new-list.ensures.slice in
    let m : take c.len.result c.put.new.self.records.now ≡ take (length xs) (x ∷ take n xs) =
    c.len.ensures.front
    ∙ pushed (length xs) n c.min-kept.result x xs (live c.put.new.self) (omega (arith, c.min-kept.ensures)) refl
    (λ h. (did.done (omega (arith, ap length l))).1 ∙ ap (λ t. x ∷ t) l)
    (λ h. ap live (did.refused (omega (arith, ap length l))).1 ∙ l) in
    let w : c.len.result ≤ length xs = omega (arith, c.len.ensures.within, did.places) in
    search rules
