use Rattle.pool.specs.Steps.{DidSettle}
use Rattle.pool.proofs.pool.Pool.flush_all.Given as goal

abbrev pub invariant-loop-i : goal.invariant-loop-i
invariant-loop-i g l = DidSettle l.initial.self l.i l.self
