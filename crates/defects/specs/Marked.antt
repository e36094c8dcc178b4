use Rattle.std.specs.Prelude.{◌≡◌, ℕ, true, false, is_ok, Result}
use Rattle.page.specs.declared.refusal.Refusal.{Refusal}
use Rattle.device.specs.declared.device.Device as device
use Rattle.defects.specs.declared.list.DefectList.{DefectList}
use Rattle.defects.specs.declared.mark.Defect.{Defect}
use Rattle.defects.specs.Defects.{Marking, mark_answer}

-- What a call of `mark` did to a defect list: a refused mark alters nothing, an accepted one alters
-- the marks alone.
pub record DidMark {D : Type 0} (d : device.Ghosts D) (s : DefectList D) (page : ℕ) (defect : Defect) (r : Result (Unit {0}) Refusal) (s' : DefectList D) : Type 0 where
  pub answer : r ≡ mark_answer (d.size s.below) s.marks page
  pub accepted : is_ok r ≡ true → Marking s.marks page defect s'.marks
  pub below : s'.below ≡ s.below
  pub refused : is_ok r ≡ false → s' ≡ s
