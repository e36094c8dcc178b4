use Rattle.volume.specs.Listed.{After}
use Rattle.volume.proofs.marking.mark_all.Given as goal

abbrev pub invariant-loop-at : goal.invariant-loop-at
invariant-loop-at g l = After l.initial.list l.marks l.at-counter l.list
