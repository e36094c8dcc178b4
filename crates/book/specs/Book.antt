-- The page book: what each call is answered, and what the book is next.
use Rattle.std.specs.Prelude.{ℕ, zero, suc, ◌+◌, ◌-◌, Bool, true, false, cond, ◌&&◌, ◌||◌, ltb, List, [], ◌∷◌, length, take, drop, Some, None, Option, ◌==◌, nat_le, nat_lt}
use Rattle.page.specs.declared.refusal.Refusal.{Refusal}
use Rattle.page.specs.declared.refusal.Refusal.TheVariants.{NoSuchPage, LostPage, WornPage, ClockFull, PageFull, NoFrame, NotGranted, PastPageEnd}
use Rattle.device.specs.Row.{Page, sound, worn, lost, Row, written}
use Rattle.book.specs.declared.grant.Kind.{Kind}
use Rattle.book.specs.declared.grant.Kind.TheVariants.{Reading, Updating}
use Rattle.book.specs.Bytes.{bytes_at, patched}
use Rattle.book.specs.Call.{Call, Answer}
use Rattle.book.specs.Call.Call.{Fix, Read, Write, Unfix, Flush, FlushAll, Close}
use Rattle.book.specs.Call.Answer.{Granted, Copied, Done, Refused}

-- The state of the book: how many pages there are, how many of them can have a grant out at once, the
-- mark of its grants, the clock, each page, and the grants out for each page, to read and for update.
pub record Book : Type 0 where
  pub size : ℕ
  pub bound : ℕ
  pub mark : ℕ
  pub clock : ℕ
  pub pages : Row
  pub reading : ℕ → ℕ
  pub updating : ℕ → ℕ

-- The book at an opening: the pages are the device's, no grant is out, and the clock is 0.
abbrev pub opened : (size bound mark : ℕ) → Row → Book
opened size bound mark row = record { size = size; bound = bound; mark = mark; clock = 0; pages = row; reading = λ page. 0; updating = λ page. 0 }

abbrev pub by_kind : {X : Type 0} → Kind → (reading updating : X) → X
by_kind Reading r u = r
by_kind Updating r u = u

-- The grants out for a page, of one kind and of both.
abbrev pub granted : Book → Kind → ℕ → ℕ
granted b kind = by_kind kind b.reading b.updating

abbrev pub grants : Book → ℕ → ℕ
grants b page = b.reading page + b.updating page

-- How many pages have a grant out, of the first n and of all.
abbrev pub held_below : ℕ → Book → ℕ
held_below zero b = 0
held_below (suc n) b = cond (nat_lt 0 (grants b n)) 1 0 + held_below n b

abbrev pub held : Book → ℕ
held b = held_below b.size b

-- A question comes to nothing where the answer is yes, and to its refusal where it is no.
infix 70 ◌otherwise◌
abbrev pub ◌otherwise◌ : Bool → Refusal → Option Refusal
true otherwise r = None
false otherwise r = Some r

abbrev pub is_not_lost : Option Page → Option Refusal
is_not_lost None = None
is_not_lost (Some (sound bs)) = None
is_not_lost (Some (worn o bs)) = None
is_not_lost (Some (lost o)) = Some (LostPage o)

abbrev pub is_not_worn : Option Page → Option Refusal
is_not_worn None = None
is_not_worn (Some (sound bs)) = None
is_not_worn (Some (worn o bs)) = Some (WornPage o)
is_not_worn (Some (lost o)) = None

-- Is the mark this book's, and is a grant of that kind out for the page?
abbrev pub is_granted : Book → Kind → (mark page : ℕ) → Option Refusal
is_granted b kind mark page = (mark == b.mark && nat_lt 0 (granted b kind page)) otherwise NotGranted

-- The questions of each call, in their order. Whether the page is worn is asked of a fix for update.
abbrev pub questions : Book → Call → List (Option Refusal)
questions b (Fix kind page) =
    ltb page b.size otherwise NoSuchPage
    ∷ is_not_lost (b.pages page)
    ∷ by_kind kind None (is_not_worn (b.pages page))
    ∷ ltb b.clock 4294967295 otherwise ClockFull
    ∷ ltb (grants b page) 255 otherwise PageFull
    ∷ (nat_lt 0 (grants b page) || nat_lt (held b) b.bound) otherwise NoFrame
    ∷ []
questions b (Read g offset len) = is_granted b g.kind g.mark g.page ∷ nat_le (offset + len) 512 otherwise PastPageEnd ∷ []
questions b (Write mark page offset bytes) = is_granted b Updating mark page ∷ nat_le (offset + length bytes) 512 otherwise PastPageEnd ∷ []
questions b (Unfix g) = is_granted b g.kind g.mark g.page ∷ []
questions b (Flush page) = ltb page b.size otherwise NoSuchPage ∷ []
questions b FlushAll = []
questions b Close = []

-- The first no decides.
abbrev pub first_no : List (Option Refusal) → Option Refusal
first_no [] = None
first_no (None ∷ qs) = first_no qs
first_no (Some r ∷ qs) = Some r

abbrev pub refusal : Book → Call → Option Refusal
refusal b call = first_no (questions b call)

-- The book with n grants of a kind out for a page, at a time; and with other pages.
abbrev pub put : (ℕ → ℕ) → (page n : ℕ) → ℕ → ℕ
put f page n q = cond (q == page) n (f q)

abbrev pub with_grants : Book → (clock : ℕ) → Kind → (page n : ℕ) → Book
with_grants b clock kind page n = record { size = b.size; bound = b.bound; mark = b.mark; clock = clock; pages = b.pages; reading = by_kind kind (put b.reading page n) b.reading; updating = by_kind kind b.updating (put b.updating page n) }

abbrev pub with_pages : Book → Row → Book
with_pages b row = record { size = b.size; bound = b.bound; mark = b.mark; clock = b.clock; pages = row; reading = b.reading; updating = b.updating }

-- What an accepted call is answered, and the book after it.
abbrev pub accepted : Book → Call → Answer × Book
accepted b (Fix kind page) = (Granted (record { kind = kind; mark = b.mark; page = page }), with_grants b (b.clock + 1) kind page (granted b kind page + 1))
accepted b (Read g offset len) = (Copied (take len (drop offset (bytes_at (b.pages g.page)))), b)
accepted b (Write mark page offset bytes) = (Done, with_pages b (written b.pages page (patched offset bytes (bytes_at (b.pages page)))))
accepted b (Unfix g) = (Done, with_grants b b.clock g.kind g.page (granted b g.kind g.page - 1))
accepted b (Flush page) = (Done, b)
accepted b FlushAll = (Done, b)
accepted b Close = (Done, b)

-- A refused call leaves the book as it was.
abbrev pub decided : Book → Option Refusal → Answer × Book → Answer × Book
decided b None then = then
decided b (Some r) then = (Refused r, b)

abbrev pub says : Book → Call → Answer
says b call = (decided b (refusal b call) (accepted b call)).0

abbrev pub next : Book → Call → Book
next b call = (decided b (refusal b call) (accepted b call)).1

-- The book after a list of calls, and what it answered.
abbrev pub book_after : Book → List Call → Book
book_after b [] = b
book_after b (call ∷ calls) = book_after (next b call) calls

abbrev pub told : Book → List Call → List Answer
told b [] = []
told b (call ∷ calls) = says b call ∷ told (next b call) calls
