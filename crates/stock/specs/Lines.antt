use Rattle.std.specs.Prelude.{◌≡◌, ℕ, zero, suc, List, [], ◌∷◌, ◌++◌, IfOk, Some, None, Ok, Err, vec_items, Option, Result}
use Rattle.std.specs.declared.alloc.AllocError.{AllocError}
use Rattle.std.specs.Global.{Vec}
use Rattle.page.specs.declared.refusal.Refusal.{Refusal}
use Rattle.page.specs.declared.refusal.Refusal.TheVariants.{NoSuchPage, LostPage}
use Rattle.device.specs.Row.{Page, sound, worn, lost, Row, state_at}
use Rattle.stock.specs.declared.book.Book.{Book}
use Rattle.stock.specs.declared.book.Layout.{Layout}
use Rattle.stock.specs.declared.line.Line.{Line}
use Rattle.stock.specs.declared.tally.Tally.{Tally}
use Rattle.stock.specs.Books.{book_of}
use Rattle.stock.specs.Tallies.{tally_of}

-- What a read gave: the records of the bytes, or the refusal.
abbrev pub heard_of : Book → Result (Unit {0}) Refusal → List ℕ → Result Tally Refusal
heard_of b (Ok x) bs = Ok (tally_of b bs)
heard_of b (Err e) bs = Err e

-- What reading a page and counting its records gives.
abbrev pub found_at : Book → Option Page → Result Tally Refusal
found_at b None = Err NoSuchPage
found_at b (Some (sound bs)) = Ok (tally_of b bs)
found_at b (Some (worn o bs)) = Ok (tally_of b bs)
found_at b (Some (lost o)) = Err (LostPage o)

-- The line of page k.
abbrev pub line_of : Layout → Row → ℕ → Line
line_of l row k = record { page = k; book = book_of l k; state = state_at (row k); found = found_at (book_of l k) (row k) }

-- The lines of the first n pages, in their order.
abbrev pub lines_to : Layout → Row → ℕ → List Line
lines_to l row zero = []
lines_to l row (suc n) = lines_to l row n ++ (line_of l row n ∷ [])

-- What a look at a page of a volume of n pages did: the line is the page's, the volume as it was.
pub record DidLook (l : Layout) (n : ℕ) (pages : Row) (page : ℕ) (r : Line) (n' : ℕ) (pages' : Row) : Type 0 where
  pub line : r ≡ line_of l pages page
  pub size : n' ≡ n
  pub row : (k : ℕ) → pages' k ≡ pages k

-- What taking stock of a volume of n pages did: where memory sufficed, there is a line for each page
-- in its order; the volume is as it was.
pub record DidTake (l : Layout) (n : ℕ) (pages : Row) (r : Result (Vec Line) AllocError) (n' : ℕ) (pages' : Row) : Type 0 where
  pub lines : IfOk r (λ v. vec_items v ≡ lines_to l pages n)
  pub size : n' ≡ n
  pub row : (k : ℕ) → pages' k ≡ pages k

-- What has been seen after i pages.
pub record Seen (l : Layout) (n : ℕ) (pages : Row) (i : ℕ) (lines : List Line) (n' : ℕ) (pages' : Row) : Type 0 where
  pub so_far : lines ≡ lines_to l pages i
  pub size : n' ≡ n
  pub row : (k : ℕ) → pages' k ≡ pages k
