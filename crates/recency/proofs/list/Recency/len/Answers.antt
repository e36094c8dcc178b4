use Rattle.std.proofs.Common.{take, sym, ap, ◌∙◌, arith}
use Rattle.std.proofs.lemmas.List.{length-take}
use Rattle.recency.proofs.Laws.{take-cut}
use Rattle.recency.proofs.list.Recency.len.Goals as goal

pub returns : goal.returns
returns g c =
    let s = c.args.self.now in
    let xs = s.records.now in
    record {
      value = c.min.ensures ∙ sym (length-take s.len xs);
      within = omega arith;
      front = ap (λ n. take n xs) c.min.ensures ∙ take-cut s.len xs;
    }
