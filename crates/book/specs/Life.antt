-- What a call does to what is seen of a pool, a whole life of calls, and what is promised of it.
use Rattle.std.specs.Prelude.{◌≡◌, ℕ, ◌*◌, ◌<◌, ◌≤◌, Bool, true, false, ◌⊎◌, List, [], ◌∷◌, ◌++◌, length, take, drop, Some, None, Option, ◌==◌}
use Rattle.std.specs.List.{slice_get}
use Rattle.device.specs.Row.{Page, Row}
use Rattle.book.specs.Book.{Book, says, next, refusal, book_after, told}
use Rattle.book.specs.Bytes.{readable}
use Rattle.book.specs.Call.{Call, Answer}
use Rattle.book.specs.Call.Call.{Fix, Read, Write, Unfix, Flush, FlushAll, Close}

-- What is seen of a pool: its book, and the row of the device below it.
pub record Sight : Type 0 where
  pub book : Book
  pub below : Row

-- The pages that a call flushes. A close counts as a flush of each.
abbrev pub flushes : Call → ℕ → Bool
flushes (Fix kind page) q = false
flushes (Read g offset len) q = false
flushes (Write mark page offset bytes) q = false
flushes (Unfix g) q = false
flushes (Flush page) q = page == q
flushes FlushAll q = true
flushes Close q = true

-- An accepted flush of page q.
pub record Flushed (b : Book) (call : Call) (q : ℕ) : Type 0 where
  pub accepted : refusal b call ≡ None
  pub named : flushes call q ≡ true

-- One call: the answer and the next book are the book's, each page below stays or becomes what the
-- book gives, and a flushed page becomes it.
pub record Step (c : Sight) (call : Call) (a : Answer) (d : Sight) : Type 0 where
  pub answer : a ≡ says c.book call
  pub after : d.book ≡ next c.book call
  pub moved : (q : ℕ) → (d.below q ≡ c.below q) ⊎ (d.below q ≡ c.book.pages q)
  pub flushed : (q : ℕ) → Flushed c.book call q → d.below q ≡ c.book.pages q

-- A life: calls with their answers, from one sight to another.
pub data Life : Sight → List Call → List Answer → Sight → Type 0 where
  start : {c : Sight} → Life c [] [] c
  step : {c d e : Sight} {call : Call} {a : Answer} {calls : List Call} {rs : List Answer} →
      Step c call a d → Life d calls rs e → Life c (call ∷ calls) (a ∷ rs) e

-- The book at a moment: 0 is the opening, m is the end of the m-th call.
abbrev pub book_at : Book → List Call → ℕ → Book
book_at b calls m = book_after b (take m calls)

-- A moment of a life, not before the last accepted flush of page q, at which the book gave p there.
pub record Moment (opening : ℕ) (b : Book) (calls : List Call) (q : ℕ) (p : Option Page) : Type 0 where
  pub m : ℕ
  pub since : opening ≤ m
  pub within : m ≤ length calls
  pub gives : p ≡ (book_at b calls m).pages q
  pub flushed : (k : ℕ) (call : Call) → slice_get calls k ≡ Some call → Flushed (book_at b calls k) call q → k < m

-- The promise, of the book at the opening, the calls, their answers, and what is seen at the end: the
-- answers and the book are the book's, and the device holds, for each readable page, what the book
-- gave there no earlier than its last accepted flush.
pub record Kept (opening : ℕ) (b : Book) (calls : List Call) (rs : List Answer) (d : Sight) : Type 0 where
  pub answers : rs ≡ told b calls
  pub books : d.book ≡ book_after b calls
  pub holds : (q : ℕ) → readable (b.pages q) ≡ true → Moment opening b calls q (d.below q)

-- A sight at an opening: the book's pages are the device's.
abbrev pub Opens : Sight → Type 0
Opens c = (q : ℕ) → c.below q ≡ c.book.pages q

-- Every life from an opening keeps the promise, at its end and at every cut, and after a close the
-- device holds the book's pages. There is a life of every list of calls, and at the moment of the
-- opening its book is the one opened.
pub record Lives (opening : ℕ) (c : Sight) : Type 0 where
  pub opens : (calls : List Call) → book_at c.book calls opening ≡ c.book
  pub any : (calls : List Call) → (d : Sight) × Life c calls (told c.book calls) d
  pub kept : (calls : List Call) (rs : List Answer) (d : Sight) → Life c calls rs d → Kept opening c.book calls rs d
  pub cut : (calls : List Call) (rs : List Answer) (d : Sight) → Life c calls rs d → (n : ℕ) → n ≤ length calls →
      (x : Sight) × Life c (take n calls) (take n rs) x × Life x (drop n calls) (drop n rs) d × Kept opening c.book (take n calls) (take n rs) x
  pub closed : (calls : List Call) (rs : List Answer) (d : Sight) → Life c (calls ++ Close ∷ []) rs d →
      (q : ℕ) → readable (c.book.pages q) ≡ true → d.below q ≡ (book_after c.book calls).pages q

-- Each call of a life gets so many answers; and two lives of the same calls from equal books, whatever
-- lies below, get the same answers and have equal books at their ends.
pub record Agree (per_call : ℕ) : Type 0 where
  pub each : (c d : Sight) (calls : List Call) (rs : List Answer) → Life c calls rs d → length rs ≡ per_call * length calls
  pub same : (c d c' d' : Sight) (calls : List Call) (rs rs' : List Answer) → c.book ≡ c'.book → Life c calls rs d → Life c' calls rs' d' → (rs ≡ rs') × (d.book ≡ d'.book)
