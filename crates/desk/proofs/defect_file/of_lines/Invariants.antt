use Rattle.std.proofs.Common.{◌≡◌, ℕ, List, length, Ok, vec_items}
use Rattle.std.specs.Iterator.{AlwaysYields}
use Rattle.desk.specs.DefectFiles.{marks_to}
use Rattle.desk.proofs.defect_file.of_lines.Given as goal

abbrev pub invariant-loop-before : goal.invariant-loop-before
invariant-loop-before g l = (ls : List (List ℕ)) → AlwaysYields g.I.Iterator.next_gives {B = List ℕ} (λ w. w.now) l.fn.lines ls → marks_to ls (length l.yielded) ≡ Ok (vec_items l.marks)
