use Rattle.std.proofs.Common.{◌≡◌, ◌≤◌}
use Rattle.arrayvec.specs.ArrayVec.{array_vec_len}
use Rattle.frames.specs.Table.{frame, idle}
use Rattle.frames.proofs.frames.Frames.idle.Given as goal

abbrev pub invariant-loop-slot : goal.invariant-loop-slot
invariant-loop-slot l = (array_vec_len l.pages ≤ l.slot-index) × (l.pages.items ≡ idle l.slot-index (frame l.self))
