use Rattle.std.proofs.Common.{sym, ◌∙◌}
use Rattle.pool.proofs.Evicting.{evicted}
use Rattle.pool.proofs.pool.Pool.evict.Goals as goal

pub returns-then-is_some : goal.returns-then-is_some
returns-then-is_some g c = evicted c.args.self.now c.write_back.new.self c.args.vacancy c.requires (sym c.is_some.ensures ∙ c.if-is_some.true) c.write_back.ensures
