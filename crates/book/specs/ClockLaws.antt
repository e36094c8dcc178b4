use Rattle.std.specs.Prelude.{◌≡◌, ℕ, ◌+◌, ◌<◌, ◌≤◌, List, Some, None}
use Rattle.page.specs.declared.refusal.Refusal.TheVariants.{ClockFull}
use Rattle.device.specs.Row.{Row}
use Rattle.book.specs.declared.grant.Kind.{Kind}
use Rattle.book.specs.Book.{Book, opened, refusal, book_after}
use Rattle.book.specs.Call.{Call}
use Rattle.book.specs.Call.Call.{Fix}
use Rattle.book.specs.Counts.{is_fix, count}

-- The laws of the book's clock, up to the last time that it shows.
pub record ClockLaws (last : ℕ) : Type 0 where
  -- The clock counts the accepted fixes, and from an opening on it shows their number.
  pub counts : (b : Book) (calls : List Call) → (book_after b calls).clock ≡ b.clock + count is_fix b calls
  pub opens : (size bound mark : ℕ) (row : Row) (calls : List Call) → (book_after (opened size bound mark row) calls).clock ≡ count is_fix (opened size bound mark row) calls
  -- It never passes the last time: a fix is accepted only before that, and the clock is called full
  -- only then.
  pub shows : (size bound mark : ℕ) (row : Row) (calls : List Call) → (book_after (opened size bound mark row) calls).clock ≤ last
  pub before : (b : Book) (kind : Kind) (page : ℕ) → refusal b (Fix kind page) ≡ None → b.clock < last
  pub full : (b : Book) (kind : Kind) (page : ℕ) → refusal b (Fix kind page) ≡ Some ClockFull → last ≤ b.clock
