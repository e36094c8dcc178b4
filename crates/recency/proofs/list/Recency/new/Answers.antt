use Rattle.std.proofs.Common.{take, refl, ap, ◌∙◌}
use Rattle.recency.proofs.Laws.{take-cut}
use Rattle.recency.proofs.list.Recency.new.Goals as goal

pub returns : goal.returns
returns g c =
    let xs = c.args.records.now in
    record {
      live = ap (λ n. take n xs) c.min-len.ensures ∙ take-cut c.args.len xs;
      slice = refl;
      len = c.min-len.ensures;
      same = refl;
    }
