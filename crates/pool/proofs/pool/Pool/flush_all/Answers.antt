use Rattle.std.proofs.Common.{arith}
use Rattle.pool.proofs.Flushing.{did_flush_all}
use Rattle.pool.proofs.pool.Pool.flush_all.Goals as goal

pub returns : goal.returns
returns g c = did_flush_all c.args.self.now c.loop-i.self c.loop-i.i (omega (arith, c.loop-i.self.frames.few, c.loop-i-test.false)) c.loop-i.invariant
