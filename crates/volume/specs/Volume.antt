use Rattle.std.specs.Prelude.{◌≡◌, ℕ, ◌<◌, ◌≤◌, List, length, Some, None, Option}
use Rattle.std.specs.List.{slice_get}
use Rattle.page.specs.declared.refusal.Refusal.TheVariants.{NoSuchPage, NoPlace}
use Rattle.device.specs.declared.device.Device as device
use Rattle.device.specs.Row.{Row, up_at}
use Rattle.ends.specs.declared.archive.Archive.{Archive}
use Rattle.ends.specs.declared.memory.Memory.{Memory}
use Rattle.ends.specs.Bytes.{pages_in, memory_row, archive_row}
use Rattle.ends.specs.Shapes.{memory_of, archive_of}
use Rattle.layers.specs.declared.join.Join.{Join}
use Rattle.layers.specs.Join.{join_row, join_size}
use Rattle.layers.specs.JoinShape.{join_of}
use Rattle.defects.specs.declared.list.DefectList.{DefectList}
use Rattle.defects.specs.declared.mark.Defect.{Defect}
use Rattle.defects.specs.declared.mark.Mark.{Mark}
use Rattle.defects.specs.Defects.{marked_at}
use Rattle.defects.specs.DefectShape.{defect_of}
use Rattle.volume.specs.declared.marking.MarkRefused.{MarkRefused}
use Rattle.volume.specs.Listed.{worst_of}

-- The shipped volume: the batch book on memory under a defect list, joined with the fee book on
-- memory, joined with the archive.
abbrev pub Shipped : Type 0
Shipped = Join (Join (DefectList Memory) Memory) Archive

abbrev pub shipped_of : device.Ghosts Shipped
shipped_of = join_of (join_of (defect_of memory_of) memory_of) archive_of

-- A row under marks.
abbrev pub marked_row : (ℕ → Option Defect) → Row → Row
marked_row marks below k = marked_at (marks k) k (up_at (below k))

-- The row of the shipped volume, by the bytes of its books and the marks of the batch book's pages.
abbrev pub shipped_row : List ℕ → List ℕ → List ℕ → List Mark → Row
shipped_row batch fees archive marks =
    join_row (join_size (pages_in (length batch)) (pages_in (length fees)))
    (join_row (pages_in (length batch)) (marked_row (λ k. worst_of k None marks) (memory_row batch)) (memory_row fees))
    (archive_row archive)

abbrev pub shipped_size : List ℕ → List ℕ → List ℕ → ℕ
shipped_size batch fees archive = join_size (join_size (pages_in (length batch)) (pages_in (length fees))) (pages_in (length archive))

-- A volume that was put together: its row is the shipped one.
pub record Opened (batch fees archive : List ℕ) (marks : List Mark) (v : Shipped) : Type 0 where
  pub size : shipped_of.size v ≡ shipped_size batch fees archive
  pub row : (k : ℕ) → shipped_of.row v k ≡ shipped_row batch fees archive marks k

-- A mark that was refused: its page is not in the batch book, or no place was left for it.
pub record Unopened (batch : List ℕ) (marks : List Mark) (e : MarkRefused) : Type 0 where
  pub within : e.at < length marks
  pub past : (m : Mark) → slice_get marks e.at ≡ Some m → pages_in (length batch) ≤ m.page → e.refusal ≡ NoSuchPage
  pub full : (m : Mark) → slice_get marks e.at ≡ Some m → m.page < pages_in (length batch) → e.refusal ≡ NoPlace
