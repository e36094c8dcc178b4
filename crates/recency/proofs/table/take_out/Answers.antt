use Rattle.std.proofs.Common.{◌≡◌, ◌≤◌, map, length, take, Some, None, sym, ap, ◌∙◌, arith, rules}
use Rattle.std.specs.Option.{ok_or}
use Rattle.std.specs.Result.{result_ok}
use Rattle.std.specs.List.{slice_get}
use Rattle.page.specs.declared.refusal.Refusal.TheVariants.{PastLength}
use Rattle.recency.specs.Calls.{room}
use Rattle.recency.specs.Recent.{place_of, without, found, less}
use Rattle.recency.proofs.Pages.{at, unplaced, ok_of}
use Rattle.recency.proofs.table.take_out.Goals as goal

pub returns-in_default : goal.returns-in_default
returns-in_default g c =
    let key = g.T.Keyed.key in
    let p = c.args.page in
    let xs = take c.args.len c.args.records.now in
    let l = c.new-list.ensures.live in
    let none : place_of p (map key xs) ≡ None = ap (λ t. place_of p (map key t)) (sym l) ∙ sym c.find.ensures.value ∙ c.in_default.is in
    let a : None ≡ found key p xs = sym (unplaced key p xs none).none in
    let m : take c.len.result c.new-list.result.records.now ≡ less key p xs = c.len.ensures.front ∙ l ∙ sym (unplaced key p xs none).same in
    let r : room c.new-list.result ≡ length c.args.records.now = ap length c.new-list.ensures.slice in
    let w : c.len.result ≤ length c.args.records.now = omega (arith, c.len.ensures.within) in
    search rules

pub returns : goal.returns
returns g c =
    let key = g.T.Keyed.key in
    let p = c.args.page in
    let i = c.in-Some.place in
    let xs = take c.args.len c.args.records.now in
    let l = c.new-list.ensures.live in
    let did = c.take.ensures.did in
    let some : place_of p (map key xs) ≡ Some i = ap (λ t. place_of p (map key t)) (sym l) ∙ sym c.find.ensures.value ∙ c.in-Some.is in
    let there = at key p i xs some in
    let a : c.ok-record.result ≡ found key p xs = c.ok-record.ensures.value ∙ ap result_ok (did.answer ∙ ap (λ t. ok_or (slice_get t i) PastLength) l) ∙ ok_of (slice_get xs i) PastLength ∙ sym there.one in
    let m : take c.len-2.result c.take.new.self.records.now ≡ less key p xs = c.len-2.ensures.front ∙ did.list ∙ ap (λ t. without t i) l ∙ there.rest in
    let r : room c.new-list.result ≡ length c.args.records.now = ap length c.new-list.ensures.slice in
    let w : c.len-2.result ≤ length c.args.records.now = omega (arith, c.len-2.ensures.within, did.places) in
    search rules
