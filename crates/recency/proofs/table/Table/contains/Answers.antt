use Rattle.std.proofs.Common.{map, is_some, ap, ◌∙◌}
use Rattle.recency.specs.Recent.{member}
use Rattle.recency.proofs.Pages.{placed}
use Rattle.recency.proofs.table.Table.contains.Goals as goal

pub returns : goal.returns
returns g c =
    let key = g.T.Keyed.key in
    let p = c.args.page in
    c.is_some.ensures ∙ ap is_some c.place_of.ensures.value ∙ placed p _ ∙ ap (λ t. member p (map key t)) c.as_slice.ensures
