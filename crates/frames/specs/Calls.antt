-- What the calls of a table of frames answer and do.
use Rattle.std.specs.Prelude.{◌≡◌, ℕ, ◌+◌, ◌<◌, ◌≤◌, Bool, true, false, cond, List, length, take, drop, Some, None, Ok, Err, Option, Result, ◌≢◌, nat_le}
use Rattle.page.specs.declared.refusal.Refusal.{Refusal}
use Rattle.page.specs.declared.refusal.Refusal.TheVariants.{PastPageEnd}
use Rattle.device.specs.Calls.{DidRead, DidWrite}
use Rattle.device.specs.declared.device.Device as device
use Rattle.book.specs.Bytes.{patched}
use Rattle.book.specs.declared.grant.Kind.{Kind}
use Rattle.frames.specs.declared.place.Place.{Place}
use Rattle.frames.specs.Table.{Frame, page_in, fresh, marked, with_slot}

-- A page is in none of the first n frames.
abbrev pub Absent : ℕ → (ℕ → Frame) → ℕ → Type 0
Absent n F page = (i : ℕ) → i < n → page_in (F i) ≢ page

-- The place of a page in the first n frames, or none where it is in none of them.
abbrev pub Found : ℕ → (ℕ → Frame) → ℕ → Option Place → Type 0
Found n F page None = Absent n F page
Found n F page (Some i) = (i.index < n) × (page_in (F i.index) ≡ page)

-- The first free place of a table with n frames in use and no more than bound to be used.
abbrev pub Spare : ℕ → ℕ → Option Place → Type 0
Spare n bound None = bound ≤ n
Spare n bound (Some i) = (i.index ≡ n) × (n < bound)

-- The place with a number, of a table with n frames in use.
abbrev pub Nth : ℕ → ℕ → Option Place → Type 0
Nth n k None = n ≤ k
Nth n k (Some i) = (i.index ≡ k) × (k < n)

-- Where bytes from an offset on end, if that is within a page.
abbrev pub end_of : ℕ → ℕ → Result ℕ Refusal
end_of offset len = cond (nat_le (offset + len) 512) (Ok (offset + len)) (Err PastPageEnd)

-- Do bytes from an offset on stay within a page?
abbrev pub fits : ℕ → ℕ → Result (Unit {0}) Refusal
fits offset len = cond (nat_le (offset + len) 512) (Ok tt) (Err PastPageEnd)

abbrev pub if_ok : {X : Type 0} → Result (Unit {0}) Refusal → X → X → X
if_ok (Ok x) y n = y
if_ok (Err e) y n = n

-- What a buffer holds after a read from a frame: the frame's bytes or, on a refusal, what it held.
abbrev pub copied : Frame → ℕ → List ℕ → List ℕ
copied f offset old = if_ok (fits offset (length old)) (take (length old) (drop offset f.bytes)) old

-- A frame after a write to it. No bytes make no change.
abbrev pub no_bytes : List ℕ → Bool
no_bytes new = nat_le (length new) 0

abbrev pub changed_by : Frame → ℕ → List ℕ → Frame
changed_by f offset new = cond (no_bytes new) f (record { slot = marked true f.slot; bytes = patched offset new f.bytes })

abbrev pub overwritten : Frame → ℕ → List ℕ → Frame
overwritten f offset new = if_ok (fits offset (length new)) (changed_by f offset new) f

-- What writing a frame back did: a changed frame's bytes went to the device, and it is changed no more.
pub record DidStore {D : Type 0} (d : device.Ghosts D) (f : Frame) (below : D) (f' : Frame) (below' : D) : Type 0 where
  pub frame : f' ≡ with_slot f (marked false f.slot)
  pub clean : f.slot.changed ≡ false → below' ≡ below
  pub dirty : f.slot.changed ≡ true → (r : Result (Unit {0}) Refusal) × DidWrite (d.size below) (d.row below) (page_in f) f.bytes r (d.size below') (d.row below')

-- What loading a page did: the device was read, and the frame has the page with one grant out, and
-- what the read left of the bytes that it had.
pub record DidLoad {D : Type 0} (d : device.Ghosts D) (f : Frame) (kind : Kind) (page : ℕ) (below : D) (f' : Frame) (below' : D) : Type 0 where
  pub slot : f'.slot ≡ fresh kind page
  pub read : (r : Result (Unit {0}) Refusal) × DidRead (d.size below) (d.row below) page f.bytes r (d.size below') (d.row below') f'.bytes
