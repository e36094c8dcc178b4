use Rattle.std.proofs.Common.{◌≡◌, ℕ, ◌-◌, List, take, Some, None, Option, sym, ap, ◌∙◌, arith, Bor}
use Rattle.std.specs.Option.{option_map}
use Rattle.std.specs.Slice.{IsGetResult}
use Rattle.std.specs.List.{slice_get}
use Rattle.std.proofs.lemmas.Option.{slice_get-get_or, slice_get_past}
use Rattle.recency.proofs.list.Recency.get.Goals as goal

read : {X : Type 0} (xs : List X) (i : ℕ) (r : Option (Bor X)) → IsGetResult xs i i r → option_map (λ x. x.now) r ≡ slice_get xs i
read xs i None h = sym (slice_get_past xs i h.3)
read xs i (Some x) h = ap Some (h.3.1 x.now) ∙ sym (slice_get-get_or xs i x.now h.3.0)

pub returns : goal.returns
returns g c =
    let place = c.args.place in
    let xs = c.args.self.now.records.now in
    let n = c.len-len.result in
    let all : n - 0 ≡ n = omega arith in
    c.copied.ensures ∙ read (take (n - 0) xs) place c.get.result c.get.ensures.lookup ∙ ap (λ m. slice_get (take m xs) place) all ∙ ap (λ t. slice_get t place) c.len-len.ensures.front
