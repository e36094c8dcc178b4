use Rattle.std.specs.Prelude.{◌≡◌, ℕ, ◌+◌, cond, List, [], ◌∷◌, length, replicate, is_some, Some, None, Ok, Err, Option, Result, ◌==◌, ◌≢◌, nat_lt}
use Rattle.page.specs.declared.origin.Origin.{Origin}
use Rattle.page.specs.declared.refusal.Refusal.{Refusal}
use Rattle.page.specs.declared.refusal.Refusal.TheVariants.{NoSuchPage, NoPlace}
use Rattle.page.specs.declared.state.State.{State}
use Rattle.page.specs.declared.state.State.TheVariants.{Sound, Worn, Lost}
use Rattle.device.specs.Row.{Page, sound, worn, lost, Row, up_at}
use Rattle.defects.specs.declared.mark.Defect.{Defect}
use Rattle.defects.specs.declared.mark.Defect.TheVariants as defect
use Rattle.defects.specs.declared.mark.Mark.{Mark}

-- The places of a defect list: each is free or has a mark.
abbrev pub Marks : Type 0
Marks = List (Option Mark)

-- What one place says of page k.
abbrev pub said_of : Option Mark → ℕ → Option Defect
said_of None k = None
said_of (Some m) k = cond (m.page == k) (Some m.defect) None

abbrev pub or_else : Option Defect → Option Defect → Option Defect
or_else (Some d) o = Some d
or_else None o = o

-- The mark of page k: what the first place says that says anything of it.
abbrev pub mark_of : Marks → ℕ → Option Defect
mark_of [] k = None
mark_of (m ∷ ms) k = or_else (said_of m k) (mark_of ms k)

-- How many places are taken.
abbrev pub taken : Marks → ℕ
taken [] = 0
taken (m ∷ ms) = cond (is_some m) 1 0 + taken ms

abbrev pub here : ℕ → Origin
here k = record { page = k; depth = 0 }

-- The worse of a mark and a page; where the mark is no better, the origin is this page.
abbrev pub marked : Option Defect → ℕ → Page → Page
marked None k p = p
marked (Some defect.Lost) k p = lost (here k)
marked (Some defect.Worn) k (sound bs) = worn (here k) bs
marked (Some defect.Worn) k (worn o bs) = worn (here k) bs
marked (Some defect.Worn) k (lost o) = lost o

abbrev pub marked_state : Option Defect → ℕ → State → State
marked_state None k s = s
marked_state (Some defect.Lost) k s = Lost (here k)
marked_state (Some defect.Worn) k Sound = Worn (here k)
marked_state (Some defect.Worn) k (Worn o) = Worn (here k)
marked_state (Some defect.Worn) k (Lost o) = Lost o

abbrev pub marked_at : Option Defect → ℕ → Option Page → Option Page
marked_at d k None = None
marked_at d k (Some p) = Some (marked d k p)

-- A device under a defect list.
abbrev pub defect_row : Marks → Row → Row
defect_row ms below k = marked_at (mark_of ms k) k (up_at (below k))

-- Marking twice keeps the worse.
abbrev pub worst : Option Defect → Defect → Defect
worst None d = d
worst (Some defect.Lost) d = defect.Lost
worst (Some defect.Worn) d = d

-- What marking a page answers, n being the count: is there such a page, and is a place free or the
-- page marked already.
abbrev pub mark_answer : ℕ → Marks → ℕ → Result (Unit {0}) Refusal
mark_answer n ms page = cond (nat_lt page n) (cond (is_some (mark_of ms page)) (Ok tt) (cond (nat_lt (taken ms) (length ms)) (Ok tt) (Err NoPlace))) (Err NoSuchPage)

-- What marking a page did to the places: that page has the worse of its marks, every other is as it
-- was, and one place more is taken if the page had no mark. Which place it takes is left open.
pub record Marking (ms : Marks) (page : ℕ) (d : Defect) (ms' : Marks) : Type 0 where
  pub marks : mark_of ms' page ≡ Some (worst (mark_of ms page) d)
  pub others : (k : ℕ) → (k ≢ page) → mark_of ms' k ≡ mark_of ms k
  pub places : taken ms' ≡ taken ms + cond (is_some (mark_of ms page)) 0 1
  pub room : length ms' ≡ length ms

-- A list with no mark yet.
unfoldable pub unmarked : Marks
unmarked = replicate 16 None
