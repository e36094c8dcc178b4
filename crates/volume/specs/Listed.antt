use Rattle.std.specs.Prelude.{◌≡◌, ℕ, ◌<◌, cond, List, length, take, Some, Err, fold, Option, Result, MatchResult, ◌==◌}
use Rattle.std.specs.List.{slice_get}
use Rattle.device.specs.declared.device.Device as device
use Rattle.defects.specs.declared.list.DefectList.{DefectList}
use Rattle.defects.specs.declared.mark.Defect.{Defect}
use Rattle.defects.specs.declared.mark.Mark.{Mark}
use Rattle.defects.specs.Defects.{mark_of, mark_answer, worst}
use Rattle.volume.specs.declared.marking.MarkRefused.{MarkRefused}

-- What one mark more makes of the mark of page k.
abbrev pub marking : ℕ → Option Defect → Mark → Option Defect
marking k o m = cond (m.page == k) (Some (worst o m.defect)) o

-- The mark of page k after a list of marks: the worst of them.
abbrev pub worst_of : ℕ → Option Defect → List Mark → Option Defect
worst_of k o ms = fold (marking k) o ms

-- A list after the first n marks were accepted.
pub record After {D : Type 0} (s : DefectList D) (marks : List Mark) (n : ℕ) (s' : DefectList D) : Type 0 where
  pub below : s'.below ≡ s.below
  pub each : (k : ℕ) → mark_of s'.marks k ≡ worst_of k (mark_of s.marks k) (take n marks)

-- Where a mark was refused, those before it stand, and it is refused as a single mark is.
pub record Stopped {D : Type 0} (d : device.Ghosts D) (s : DefectList D) (marks : List Mark) (e : MarkRefused) (s' : DefectList D) : Type 0 where
  pub within : e.at < length marks
  pub before : After s marks e.at s'
  pub why : (m : Mark) → slice_get marks e.at ≡ Some m → Err e.refusal ≡ mark_answer (d.size s.below) s'.marks m.page

-- What making a list of marks did: all stand, or those before the first that was refused.
abbrev pub DidMarkAll : {D : Type 0} → device.Ghosts D → DefectList D → List Mark → Result (Unit {0}) MarkRefused → DefectList D → Type 0
DidMarkAll d s marks r s' = MatchResult r (λ _. After s marks (length marks) s') (λ e. Stopped d s marks e s')
