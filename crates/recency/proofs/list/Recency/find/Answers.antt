use Rattle.std.proofs.Common.{◌≡◌, ◌-◌, ◌<◌, map, length, take, IfSome, ap, ◌∙◌, subst, arith}
use Rattle.recency.specs.Calls.{live}
use Rattle.recency.specs.Recent.{place_of, Nearest}
use Rattle.recency.proofs.list.Recency.find.Goals as goal

pub returns : goal.returns
returns g c =
    let f = g.T.Keyed.key in
    let p = c.args.page in
    let xs = c.args.self.now.records.now in
    let n = c.len-len.result in
    let whole : n - 0 ≡ n = omega arith in
    let e : take (n - 0) xs ≡ live c.args.self.now = ap (λ m. take m xs) whole ∙ c.len-len.ensures.front in
    let r = c.place_of.result in
    let said = c.place_of.ensures in
    record {
      value = said.value ∙ ap (λ t. place_of p (map f t)) e;
      nearest = subst (λ t. Nearest p (map f t) r) e said.nearest;
      within = subst (λ t. IfSome r (λ i. i < length t)) e said.within;
    }
