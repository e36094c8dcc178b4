use Rattle.std.specs.Prelude.{◌≡◌, ℕ, ◌+◌, ◌-◌, ◌<◌, ◌≤◌, List, Some, None, Err, Result}
use Rattle.page.specs.declared.refusal.Refusal.{Refusal}
use Rattle.page.specs.declared.refusal.Refusal.TheVariants.{NoSuchPage, LostPage}
use Rattle.page.specs.Raise.{raised_result}
use Rattle.device.specs.declared.device.Device as device
use Rattle.device.specs.Calls.{DidBoth}
use Rattle.device.specs.Row.{write_at}
use Rattle.layers.specs.declared.join.Join.{Join}
use Rattle.layers.specs.declared.window.Window.{Window}
use Rattle.layers.specs.JoinShape.{join_of}
use Rattle.layers.specs.WindowShape.{window_of}
use Rattle.defects.specs.declared.list.DefectList.{DefectList}
use Rattle.defects.specs.declared.mark.Defect.TheVariants.{Lost}
use Rattle.defects.specs.Defects.{mark_of}
use Rattle.defects.specs.DefectShape.{defect_of}

-- A window over a join of a device under a defect list with another device.
abbrev pub Pile : Type 0 → Type 0 → Type 0
Pile D E = Window (Join (DefectList D) E)

-- What it means, over what the two devices mean.
abbrev pub pile_of : {D E : Type 0} → device.Ghosts D → device.Ghosts E → device.Ghosts (Pile D E)
pile_of d e = window_of (join_of (defect_of d) e)

-- What a layer hears from so many layers down.
abbrev pub twice : {T : Type 0} → Result T Refusal → Result T Refusal
twice r = raised_result (raised_result r)

abbrev pub thrice : {T : Type 0} → Result T Refusal → Result T Refusal
thrice r = raised_result (raised_result (raised_result r))

-- What a write to page p of the pile and a read of page q learn, w and r being the answers, and k
-- and l where the two pages lie in the join: what `DidBoth` says of the pile's row, and each refusal
-- with its origin as the device that it comes from gives it.
pub record PileTold {D E : Type 0} (d : device.Ghosts D) (e : device.Ghosts E) (s : Pile D E) (p : ℕ) (bytes : List ℕ) (q : ℕ) (old : List ℕ) (w r : Result (Unit {0}) Refusal) (s' : Pile D E) (new : List ℕ) : Type 0 where
  pub both : DidBoth ((pile_of d e).row s) p bytes q old w r ((pile_of d e).row s') new
  -- past the length of the window there is no page
  pub past : s.length ≤ p → w ≡ Err NoSuchPage
  -- a page that the list marks lost is lost here, two layers down
  pub lost : p < s.length → s.first + p < d.size s.below.first.below → mark_of s.below.first.marks (s.first + p) ≡ Some Lost → w ≡ Err (LostPage (record { page = s.first + p; depth = 2 }))
  -- an unmarked page is the page three layers down
  pub plain : p < s.length → s.first + p < d.size s.below.first.below → mark_of s.below.first.marks (s.first + p) ≡ None → w ≡ thrice (write_at (d.row s.below.first.below (s.first + p)))
  -- after the pages under the list come those of the other device, two layers down
  pub beside : p < s.length → d.size s.below.first.below ≤ s.first + p → s.first + p < 4294967295 → w ≡ twice (write_at (e.row s.below.second (s.first + p - d.size s.below.first.below)))
