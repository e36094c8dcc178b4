-- The stock of a volume, taken through a pool.
use Rattle.std.specs.Prelude.{◌≡◌, ℕ}
use Rattle.device.specs.Row.{state_at}
use Rattle.device.specs.declared.device.Device as device
use Rattle.policy.specs.declared.policy.Policy as policy
use Rattle.book.specs.Book.{Book, refusal}
use Rattle.book.specs.Bytes.{bytes_at}
use Rattle.book.specs.Call.Call.{Fix}
use Rattle.book.specs.declared.grant.Kind.TheVariants.{Reading}
use Rattle.pool.specs.Meaning.{book}
use Rattle.pool.specs.Steps.{verdict}
use Rattle.pool.specs.declared.pool.Pool.{Pool}
use Rattle.ledger.specs.Finding.{Undisturbed}
use Rattle.stock.specs.declared.book.Layout.{Layout}
use Rattle.stock.specs.declared.line.Line.{Line}
use Rattle.stock.specs.Books.{book_of}
use Rattle.stock.specs.Lines.{heard_of}

-- The line of a page, as the page book of a pool has it: what a fix of the page for reading is
-- answered, and the records of the page's bytes.
abbrev pub line_by : Layout → Book → ℕ → Line
line_by l b k = record { page = k; book = book_of l k; state = state_at (b.pages k); found = heard_of (book_of l k) (verdict (refusal b (Fix Reading k))) (bytes_at (b.pages k)) }

pub record DidLine {D P : Type 0} {d : device.Ghosts D} {p : policy.Ghosts P} (l : Layout) (pool : Pool D P d p) (page : ℕ) (r : Line) (pool' : Pool D P d p) : Type 0 where
  pub line : r ≡ line_by l (book pool) page
  pub undisturbed : Undisturbed pool pool'
