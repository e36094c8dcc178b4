use Rattle.std.specs.Prelude.{◌≡◌, ℕ, ◌+◌, ◌<◌, ◌≤◌, ◌⊎◌, List, Some, None}
use Rattle.page.specs.declared.refusal.Refusal.TheVariants.{PageFull}
use Rattle.device.specs.Row.{Row}
use Rattle.device.specs.Shape.{Shaped}
use Rattle.book.specs.declared.grant.Kind.{Kind}
use Rattle.book.specs.declared.grant.Ticket.{Ticket}
use Rattle.book.specs.Book.{Book, opened, by_kind, granted, grants, held, is_not_lost, is_not_worn, refusal, book_after}
use Rattle.book.specs.Call.{Call}
use Rattle.book.specs.Call.Call.{Fix, Unfix}
use Rattle.book.specs.Counts.{fixes, unfixes, count}
use Rattle.book.specs.Proper.{Proper}

-- What each question of an accepted fix found.
pub record Fixed (most : ℕ) (b : Book) (kind : Kind) (page : ℕ) : Type 0 where
  pub there : page < b.size
  pub not_lost : is_not_lost (b.pages page) ≡ None
  pub not_worn : by_kind kind None (is_not_worn (b.pages page)) ≡ None
  pub time : b.clock < 4294967295
  pub few : grants b page < most
  pub frame : (0 < grants b page) ⊎ (held b < b.bound)

-- What the question of an accepted unfix found.
pub record Unfixed (b : Book) (g : Ticket) : Type 0 where
  pub mark : g.mark ≡ b.mark
  pub out : 0 < granted b g.kind g.page

-- The laws of the book's grants, of which a page has at most so many.
pub record GrantLaws (most : ℕ) : Type 0 where
  -- A book is proper from its opening on, whatever is called, and keeps its size, bound and mark.
  pub opens : (size bound mark : ℕ) (row : Row) → Shaped size row → Proper (opened size bound mark row)
  pub proper : (b : Book) (calls : List Call) → Proper b → Proper (book_after b calls)
  pub size : (b : Book) (calls : List Call) → (book_after b calls).size ≡ b.size
  pub bound : (b : Book) (calls : List Call) → (book_after b calls).bound ≡ b.bound
  pub mark : (b : Book) (calls : List Call) → (book_after b calls).mark ≡ b.mark
  -- The grants out are those at the start and the accepted fixes, less the accepted unfixes.
  pub counted : (b : Book) (calls : List Call) (kind : Kind) (q : ℕ) → granted (book_after b calls) kind q + count (unfixes kind q) b calls ≡ granted b kind q + count (fixes kind q) b calls
  -- No page has more than the most, and no more pages than the bound have any.
  pub few : (b : Book) (calls : List Call) (q : ℕ) → Proper b → grants (book_after b calls) q ≤ most
  pub bounded : (b : Book) (calls : List Call) → Proper b → held (book_after b calls) ≤ b.bound
  -- What was accepted was so for its reasons, and a page is called full only if it has the most.
  pub fixed : (b : Book) (kind : Kind) (page : ℕ) → refusal b (Fix kind page) ≡ None → Fixed most b kind page
  pub unfixed : (b : Book) (g : Ticket) → refusal b (Unfix g) ≡ None → Unfixed b g
  pub full : (b : Book) (kind : Kind) (page : ℕ) → refusal b (Fix kind page) ≡ Some PageFull → most ≤ grants b page
