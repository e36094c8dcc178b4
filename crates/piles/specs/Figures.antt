use Rattle.std.specs.Prelude.{◌≡◌, ℕ, zero, suc, ◌-◌, List, length, Some, Err}
use Rattle.page.specs.declared.origin.Origin.{Origin}
use Rattle.page.specs.declared.refusal.Refusal.TheVariants.{NoSuchPage, LostPage, WornPage}
use Rattle.page.specs.Numbers.{number_of}
use Rattle.page.specs.Raise.{raised}
use Rattle.device.specs.Row.{sound, worn, lost, Row, read_at, write_at, up_at}
use Rattle.ends.specs.Bytes.{pages_in, memory_row, archive_row}
use Rattle.layers.specs.Join.{join_row, join_size}
use Rattle.layers.specs.Window.{window_row, window_size}
use Rattle.defects.specs.declared.mark.Defect.TheVariants as defect
use Rattle.defects.specs.Defects.{Marks, mark_of, marked, defect_row}

-- An origin after so many layers.
abbrev pub raised_by : ℕ → Origin → Origin
raised_by zero o = o
raised_by (suc n) o = raised (raised_by n o)

abbrev pub at : ℕ → ℕ → Origin
at page depth = record { page = page; depth = depth }

-- Worked cases of the definitions, `most` being the largest number of pages that a device may have.
pub record Figures (most : ℕ) : Type 0 where
  -- a memory of 1,023 bytes has one page, and page 1 gets refusal 2
  pub odd_memory : (bs : List ℕ) → length bs ≡ 1023 → (pages_in (length bs) ≡ 1) × (read_at (memory_row bs 1) ≡ Err NoSuchPage) × (write_at (memory_row bs 1) ≡ Err NoSuchPage)
  pub no_such_page : number_of NoSuchPage ≡ 2
  -- a window (first 1, length 5) over a three-page memory under a list that marks page 1 lost has two
  -- pages, and reading its page 0 gets refusal 3 with origin page 1, depth 1
  pub window_size_lem : window_size 1 5 3 ≡ 2
  pub window_lost : (bs : List ℕ) (ms : Marks) → length bs ≡ 1536 → mark_of ms 1 ≡ Some defect.Lost → read_at (window_row 1 5 (defect_row ms (memory_row bs)) 0) ≡ Err (LostPage (at 1 1))
  pub lost_page : (o : Origin) → number_of (LostPage o) ≡ 3
  pub worn_page : (o : Origin) → number_of (WornPage o) ≡ 4
  -- a mark that is better than the page below, equal to it, and worse
  pub better : (k : ℕ) (o : Origin) → marked (Some defect.Worn) k (lost o) ≡ lost o
  pub equal_worn : (k : ℕ) (o : Origin) (bs : List ℕ) → marked (Some defect.Worn) k (worn o bs) ≡ worn (at k 0) bs
  pub equal_lost : (k : ℕ) (o : Origin) → marked (Some defect.Lost) k (lost o) ≡ lost (at k 0)
  pub worse_worn : (k : ℕ) (bs : List ℕ) → marked (Some defect.Worn) k (sound bs) ≡ worn (at k 0) bs
  pub worse_lost : (k : ℕ) (o : Origin) (bs : List ℕ) → marked (Some defect.Lost) k (worn o bs) ≡ lost (at k 0)
  -- a depth after 254, 255 and 256 layers
  pub depth_254 : raised_by 254 (at 7 0) ≡ at 7 254
  pub depth_255 : raised_by 255 (at 7 0) ≡ at 7 255
  pub depth_256 : raised_by 256 (at 7 0) ≡ at 7 255
  -- a join that would pass the limit, at its last page and after it
  pub join_size_lem : join_size (most - 1) 9 ≡ most
  pub join_last : (r t : Row) → join_row (most - 1) r t (most - 1) ≡ up_at (t 0)
  pub join_after : (r t : Row) → read_at (join_row (most - 1) r t most) ≡ Err NoSuchPage
  -- a window past the end, and one that begins at the end
  pub window_past : window_size 4 5 3 ≡ 0
  pub window_at_end : window_size 3 5 3 ≡ 0
  pub window_over : (bs : List ℕ) → length bs ≡ 1536 → read_at (window_row 2 5 (memory_row bs) 1) ≡ Err NoSuchPage
  -- an archive's page is worn here, and one layer up it is worn one deeper
  pub archive_write : (bs : List ℕ) → length bs ≡ 1536 → write_at (window_row 1 5 (archive_row bs) 1) ≡ Err (WornPage (at 2 1))
