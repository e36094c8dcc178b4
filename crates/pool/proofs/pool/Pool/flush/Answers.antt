use Rattle.std.proofs.Common.{arith}
use Rattle.pool.proofs.Flushing.{flush_refused, flush_none, flush_back}
use Rattle.pool.proofs.pool.Pool.flush.Goals as goal

pub returns-then-page-count : goal.returns-then-page-count
returns-then-page-count g c = flush_refused c.args.self.now c.args.page (omega (arith, c.count.ensures))

pub returns-in_default : goal.returns-in_default
returns-in_default g c = flush_none c.args.self.now c.args.page (omega (arith, c.count.ensures)) c.in_default.ensures

pub returns-in-Some : goal.returns-in-Some
returns-in-Some g c =
    let found = c.in-Some.ensures in
    flush_back c.args.self.now c.write_back.new.self c.args.page c.in-Some.place.index (omega (arith, c.count.ensures)) found.0 found.1 c.write_back.ensures
