use Rattle.pool.specs.Did.{ticket}
use Rattle.pool.proofs.Working.{copy_refused, did_copy}
use Rattle.pool.proofs.pool.Pool.read.Goals as goal

pub returns-in_err-place : goal.returns-in_err-place
returns-in_err-place g c = copy_refused c.args.self.now (ticket g.K.Purpose c.args.grant.now) c.args.offset c.args.buffer.now c.from_residual.result _ c.from_residual.ensures.1 c.in_err-place.ensures

pub returns : goal.returns
returns g c =
    let out = c.in_ok-place.ensures in
    did_copy c.args.self.now (ticket g.K.Purpose c.args.grant.now) c.args.offset c.args.buffer.now _ _ c.in_ok-place.place.index out.0 out.1 out.2 c.read.ensures.answer c.read.ensures.buffer
