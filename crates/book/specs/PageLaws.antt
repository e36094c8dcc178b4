use Rattle.std.specs.Prelude.{◌≡◌, ℕ, true, false, ◌⊎◌, List, [], length, Some, None}
use Rattle.page.specs.declared.refusal.Refusal.{Refusal}
use Rattle.device.specs.Row.{Row, state_at, over_at}
use Rattle.device.specs.Shape.{Shaped}
use Rattle.book.specs.declared.grant.Kind.TheVariants.{Updating}
use Rattle.book.specs.declared.grant.Ticket.{Ticket}
use Rattle.book.specs.Book.{Book, opened, refusal, says, next, book_after}
use Rattle.book.specs.Bytes.{readable, writable, bytes_at, patched}
use Rattle.book.specs.Call.{Call}
use Rattle.book.specs.Call.Call.{Read, Write}
use Rattle.book.specs.Call.Answer.{Copied, Refused}
use Rattle.book.specs.Proper.{Proper}

-- An accepted write to page q.
pub record Wrote (b : Book) (call : Call) (q : ℕ) : Type 0 where
  pub mark : ℕ
  pub offset : ℕ
  pub bytes : List ℕ
  pub was : call ≡ Write mark q offset bytes
  pub accepted : refusal b call ≡ None
  pub becomes : (next b call).pages q ≡ over_at (b.pages q) (patched offset bytes (bytes_at (b.pages q)))

-- The laws of the book's pages, of which each readable one has so many bytes.
pub record PageLaws (page_bytes : ℕ) : Type 0 where
  -- From an opening on every readable page keeps so many bytes, and all states and origins stay.
  pub whole : (size bound mark : ℕ) (row : Row) (calls : List Call) → Shaped size row → (q : ℕ) → readable (row q) ≡ true → length (bytes_at ((book_after (opened size bound mark row) calls).pages q)) ≡ page_bytes
  pub states : (b : Book) (calls : List Call) (q : ℕ) → state_at ((book_after b calls).pages q) ≡ state_at (b.pages q)
  -- A refused call alters nothing, and neither does a write of no bytes.
  pub refused : (b : Book) (call : Call) (r : Refusal) → refusal b call ≡ Some r → (says b call ≡ Refused r) × (next b call ≡ b)
  pub none : (b : Book) (mark page offset : ℕ) → next b (Write mark page offset []) ≡ b
  -- A page changes only by an accepted write to it, and never where it is not sound.
  pub bytes : (b : Book) (call : Call) (q : ℕ) → ((next b call).pages q ≡ b.pages q) ⊎ Wrote b call q
  pub unsound : (b : Book) (calls : List Call) (q : ℕ) → writable (b.pages q) ≡ false → (book_after b calls).pages q ≡ b.pages q
  -- A read copies as many bytes as were asked for, and what was written is what is read.
  pub copied : (b : Book) (g : Ticket) (offset len : ℕ) (bs : List ℕ) → Proper b → says b (Read g offset len) ≡ Copied bs → length bs ≡ len
  pub back : (b : Book) (mark page offset : ℕ) (bs : List ℕ) → Proper b → refusal b (Write mark page offset bs) ≡ None → says (next b (Write mark page offset bs)) (Read (record { kind = Updating; mark = mark; page = page }) offset (length bs)) ≡ Copied bs
