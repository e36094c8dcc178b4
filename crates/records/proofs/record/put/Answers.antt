use Rattle.std.proofs.Common.{◌≡◌, suc, ◌-◌, ◌++◌, replicate, set, ap, ◌∙◌, arith}
use Rattle.std.proofs.lemmas.List.{set_at}
use Rattle.records.proofs.record.put.Goals as goal

pub returns-clause-bytes : goal.returns-clause-bytes
returns-clause-bytes g c =
    let laws = g.met.T.Fields.laws in
    let at = g.T.Fields.STATUS in
    let room = laws.room in
    let e : 32 - at ≡ suc (31 - at) = omega arith in
    (λ i. set ((c.to_bytes-bytes.ensures.bytes ∙ ap (λ n. g.T.Fields.written c.args.fields ++ replicate n 0) e) i) (c.STATUS.ensures i) c.args.status)
    ∙ set_at (g.T.Fields.written c.args.fields) 0 (replicate (31 - at) 0) c.args.status at (laws.sized c.args.fields).long
