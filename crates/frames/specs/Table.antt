-- A table of frames: a frame at each place, of which the first n are in use.
use Rattle.std.specs.Prelude.{ℕ, zero, suc, ◌+◌, ◌-◌, min, Bool, false, cond, List, [], ◌∷◌, ◌++◌, Some, None, Option, ◌==◌, nat_lt, slice_index_or}
use Rattle.book.specs.Book.{by_kind}
use Rattle.book.specs.declared.grant.Kind.{Kind}
use Rattle.frames.specs.declared.frames.Frames.{Frames}
use Rattle.frames.specs.declared.slot.Slot.{Slot}

-- A frame: its slot and its bytes.
pub record Frame : Type 0 where
  pub slot : Slot
  pub bytes : List ℕ

-- What would stand past the last place.
abbrev pub NONE : Slot
NONE = record { page = 0; readers = 0; updaters = 0; changed = false }

-- The frame at each place.
abbrev pub frame : Frames → ℕ → Frame
frame t i = record { slot = slice_index_or t.slots i NONE; bytes = slice_index_or t.«data» i [] }

abbrev pub page_in : Frame → ℕ
page_in f = f.slot.page

-- The frame of a page, of the first n, or none.
abbrev pub at : ℕ → (ℕ → Frame) → ℕ → Option Frame
at zero F page = None
at (suc n) F page = cond (page_in (F n) == page) (Some (F n)) (at n F page)

-- The same frames but for one.
abbrev pub with : (ℕ → Frame) → ℕ → Frame → ℕ → Frame
with F i f j = cond (j == i) f (F j)

-- The grants out for the page of a frame, of one kind and of both.
abbrev pub pins_of : Kind → Slot → ℕ
pins_of kind s = by_kind kind s.readers s.updaters

abbrev pub pins : Slot → ℕ
pins s = s.readers + s.updaters

-- The pages of the first n frames that have no grant out, from the first place on.
abbrev pub idle : ℕ → (ℕ → Frame) → List ℕ
idle zero F = []
idle (suc n) F = idle n F ++ cond (nat_lt 0 (pins (F n).slot)) [] (page_in (F n) ∷ [])

-- A slot with other grants; one grant more and one less. The count stops at 255 and at 0.
abbrev pub with_pins : Kind → Slot → ℕ → Slot
with_pins kind s n = record { page = s.page; readers = by_kind kind n s.readers; updaters = by_kind kind s.updaters n; changed = s.changed }

abbrev pub pinned : Kind → Slot → Slot
pinned kind s = with_pins kind s (min (pins_of kind s + 1) 255)

abbrev pub unpinned : Kind → Slot → Slot
unpinned kind s = with_pins kind s (pins_of kind s - 1)

-- The slot of a page that was just read, with one grant out; and a slot that is changed or not.
abbrev pub fresh : Kind → ℕ → Slot
fresh kind page = record { page = page; readers = by_kind kind 1 0; updaters = by_kind kind 0 1; changed = false }

abbrev pub marked : Bool → Slot → Slot
marked b s = record { page = s.page; readers = s.readers; updaters = s.updaters; changed = b }

-- A frame with another slot, with other bytes.
abbrev pub with_slot : Frame → Slot → Frame
with_slot f s = record { slot = s; bytes = f.bytes }
