-- A device under a defect list has the shape that every device owes.
use Rattle.std.specs.Prelude.{◌≡◌, ℕ, is_some, Some, None, Option, refl}
use Rattle.std.proofs.Common.{◌∙◌}
use Rattle.device.specs.declared.device.Device as device
use Rattle.device.specs.Row.{Page, sound, worn, lost, Row, up_at}
use Rattle.device.specs.Shape.{Shaped, Whole}
use Rattle.defects.specs.declared.list.DefectList.{DefectList}
use Rattle.defects.specs.declared.mark.Defect.{Defect}
use Rattle.defects.specs.declared.mark.Defect.TheVariants as defect
use Rattle.defects.specs.Defects.{Marks, mark_of, marked_at, defect_row}
use Rattle.device.specs.Raising.{some_up, whole_up}

some-marked : (d : Option Defect) (k : ℕ) (o : Option Page) → is_some (marked_at d k o) ≡ is_some o
some-marked d k None = refl
some-marked d k (Some p) = refl

whole-marked : (d : Option Defect) (k : ℕ) (o : Option Page) → Whole o → Whole (marked_at d k o)
whole-marked d k None w = w
whole-marked None k (Some p) w = w
whole-marked (Some defect.Lost) k (Some p) w = tt
whole-marked (Some defect.Worn) k (Some (sound bs)) w = w
whole-marked (Some defect.Worn) k (Some (worn o bs)) w = w
whole-marked (Some defect.Worn) k (Some (lost o)) w = w

pub defect_shaped : (ms : Marks) (n : ℕ) (r : Row) → Shaped n r → Shaped n (defect_row ms r)
defect_shaped ms n r s = record {
  few = s.few;
  exact = λ k. some-marked (mark_of ms k) k (up_at (r k)) ∙ some_up (r k) ∙ s.exact k;
  whole = λ k. whole-marked (mark_of ms k) k (up_at (r k)) (whole_up (r k) (s.whole k));
}

-- What a defect list means, over what the device below means.
abbrev pub defect_of : {D : Type 0} → device.Ghosts D → device.Ghosts (DefectList D)
defect_of d = record {
  size = λ s. d.size s.below;
  row = λ s. defect_row s.marks (d.row s.below);
  shaped = λ s. defect_shaped s.marks (d.size s.below) (d.row s.below) (d.shaped s.below);
}
