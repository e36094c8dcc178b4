-- What the inner steps of the calls answer and do.
use Rattle.std.specs.Prelude.{◌≡◌, ℕ, ◌+◌, ◌<◌, true, false, cond, ltb, ◌⊎◌, List, [], ◌∷◌, IfSome, Some, None, Ok, Err, Option, Result, ◌≢◌, nat_lt}
use Rattle.page.specs.declared.refusal.Refusal.{Refusal}
use Rattle.page.specs.declared.refusal.Refusal.TheVariants.{NoSuchPage, ClockFull}
use Rattle.device.specs.declared.device.Device as device
use Rattle.policy.specs.declared.outcome.Outcome.{Outcome}
use Rattle.policy.specs.declared.outcome.Outcome.TheVariants.{Hit, Fetch}
use Rattle.policy.specs.declared.policy.Policy as policy
use Rattle.book.specs.Book.{Book, by_kind, is_not_lost, is_not_worn, is_granted, first_no, granted, with_grants, ◌otherwise◌}
use Rattle.book.specs.Call.{Answer}
use Rattle.book.specs.Call.Answer.{Granted, Refused}
use Rattle.book.specs.declared.grant.Kind.{Kind}
use Rattle.book.specs.declared.grant.Ticket.{Ticket}
use Rattle.frames.specs.Calls.{Absent}
use Rattle.frames.specs.Table.{Frame, frame, page_in, idle, marked, pins, pins_of, with, with_slot}
use Rattle.frames.specs.declared.place.Place.{Place}
use Rattle.turns.specs.Turns.{Turn, free}
use Rattle.pool.specs.declared.pool.Pool.{Pool}
use Rattle.pool.specs.declared.vacancy.Vacancy.{Vacancy}
use Rattle.pool.specs.Meaning.{book, course}

abbrev pub verdict : Option Refusal → Result (Unit {0}) Refusal
verdict None = Ok tt
verdict (Some r) = Err r

-- The questions of a fix up to the clock.
abbrev pub early : Book → Kind → ℕ → List (Option Refusal)
early b kind page =
    ltb page b.size otherwise NoSuchPage
    ∷ is_not_lost (b.pages page)
    ∷ by_kind kind None (is_not_worn (b.pages page))
    ∷ ltb b.clock 4294967295 otherwise ClockFull
    ∷ []

-- They are answered yes only while the clock is not full.
abbrev pub Timely : Result (Unit {0}) Refusal → ℕ → Type 0
Timely (Ok x) clock = clock < 4294967295
Timely (Err e) clock = Unit {0}

-- The page that has to leave for another at a time.
abbrev pub leaving_of : {P : Type 0} (p : policy.Ghosts P) → p.Model → List ℕ → ℕ → Option ℕ
leaving_of p m listed t = cond (nat_lt (p.size m) (p.bound m)) None (p.chosen m listed t)

-- A vacancy: the first free place, or the place of a page that leaves and has no grant out.
abbrev pub Vacated : ℕ → (ℕ → Frame) → (bound i : ℕ) → Option ℕ → Type 0
Vacated n F bound i None = (i ≡ n) × (n < bound)
Vacated n F bound i (Some q) = (i < n) × (page_in (F i) ≡ q) × (pins (F i).slot ≡ 0)

-- The place of a vacancy is such a one.
abbrev pub Placed : {D P : Type 0} {d : device.Ghosts D} {p : policy.Ghosts P} → Pool D P d p → Vacancy → Type 0
Placed {p = p} pool v = Vacated pool.frames.used (frame pool.frames) (p.bound (p.model pool.policy)) v.place.index v.leaving

-- A vacancy at a time: the page that leaves is the policy's choice.
pub record Vacant {D P : Type 0} {d : device.Ghosts D} {p : policy.Ghosts P} (pool : Pool D P d p) (t : ℕ) (v : Vacancy) : Type 0 where
  pub leaving : v.leaving ≡ leaving_of p (p.model pool.policy) (idle pool.frames.used (frame pool.frames)) t
  pub place : Placed pool v

-- None where every frame has a page with a grant out.
abbrev pub Room : {D P : Type 0} {d : device.Ghosts D} {p : policy.Ghosts P} → Pool D P d p → ℕ → Option Vacancy → Type 0
Room {p = p} pool t None = (p.size (p.model pool.policy) ≡ p.bound (p.model pool.policy)) × ((i : ℕ) → i < pool.frames.used → 0 < pins (frame pool.frames i).slot)
Room pool t (Some v) = Vacant pool t v

-- A page that is in a frame may have one grant more.
pub record Takable {D P : Type 0} {d : device.Ghosts D} {p : policy.Ghosts P} (pool : Pool D P d p) (kind : Kind) (page t : ℕ) (place : Place) : Type 0 where
  pub early : first_no (early (book pool) kind page) ≡ None
  pub low : place.index < pool.frames.used
  pub here : page_in (frame pool.frames place.index) ≡ page
  pub few : pins (frame pool.frames place.index).slot < 255
  pub time : t ≡ pool.clock + 1

-- A page that is in no frame may come into one.
pub record Fetchable {D P : Type 0} {d : device.Ghosts D} {p : policy.Ghosts P} (pool : Pool D P d p) (kind : Kind) (page t : ℕ) (v : Vacancy) : Type 0 where
  pub early : first_no (early (book pool) kind page) ≡ None
  pub absent : Absent pool.frames.used (frame pool.frames) page
  pub vacant : Vacant pool t v
  pub time : t ≡ pool.clock + 1

-- A frame as if it were not changed.
abbrev pub cleaned : Frame → Frame
cleaned f = with_slot f (marked false f.slot)

-- The frame of a page that leaves is not changed.
abbrev pub Clean : {D P : Type 0} {d : device.Ghosts D} {p : policy.Ghosts P} → Pool D P d p → Vacancy → Type 0
Clean pool v = IfSome v.leaving (λ q. (frame pool.frames v.place.index).slot.changed ≡ false)

-- The page that left.
abbrev pub Left : Outcome → ℕ → Type 0
Left Hit q = ⊥
Left (Fetch out) q = out ≡ Some q

-- What the frame at a place being written back did: the pool is the same but for the device's page and
-- the frame, which is not changed any more.
pub record DidBack {D P : Type 0} {d : device.Ghosts D} {p : policy.Ghosts P} (pool : Pool D P d p) (i : ℕ) (pool' : Pool D P d p) : Type 0 where
  pub next : book pool' ≡ book pool
  pub policy : pool'.policy ≡ pool.policy
  pub hits : pool'.hits ≡ pool.hits
  pub fetches : pool'.fetches ≡ pool.fetches
  pub used : pool'.frames.used ≡ pool.frames.used
  pub frames : (j : ℕ) → frame pool'.frames j ≡ with (frame pool.frames) i (cleaned (frame pool.frames i)) j
  pub other : (q : ℕ) → (q ≢ page_in (frame pool.frames i)) → d.row pool'.device q ≡ d.row pool.device q

-- What making room did: the frame of the leaving page, if any, is not changed, and the pool is else the
-- same but for the device's page.
pub record DidEvict {D P : Type 0} {d : device.Ghosts D} {p : policy.Ghosts P} (pool : Pool D P d p) (v : Vacancy) (pool' : Pool D P d p) : Type 0 where
  pub next : book pool' ≡ book pool
  pub policy : pool'.policy ≡ pool.policy
  pub hits : pool'.hits ≡ pool.hits
  pub fetches : pool'.fetches ≡ pool.fetches
  pub used : pool'.frames.used ≡ pool.frames.used
  pub frames : (j : ℕ) → cleaned (frame pool'.frames j) ≡ cleaned (frame pool.frames j)
  pub clean : Clean pool' v
  pub below : (q : ℕ) → (d.row pool'.device q ≡ d.row pool.device q) ⊎ ((v.leaving ≡ Some q) × (d.row pool'.device q ≡ (book pool).pages q))

-- What an accepted fix did: a grant and a time more, each page below is as it was or, where it left,
-- as the book has it, and the policy took its turn.
pub record DidTake {D P : Type 0} {d : device.Ghosts D} {p : policy.Ghosts P} (pool : Pool D P d p) (kind : Kind) (page t : ℕ) (pool' : Pool D P d p) : Type 0 where
  pub next : book pool' ≡ with_grants (book pool) t kind page (granted (book pool) kind page + 1)
  pub outcome : Outcome
  pub turn : Turn p (free (book pool)) (course pool) page t outcome (course pool')
  pub left : (q : ℕ) → Left outcome q → (p.resident (p.model pool.policy) q ≡ true) × (q ≢ page)
  pub below : (q : ℕ) → (d.row pool'.device q ≡ d.row pool.device q) ⊎ (Left outcome q × (d.row pool'.device q ≡ (book pool).pages q))

-- What admitting a page did: it was fetched, in the place of the one that left, and nothing was
-- written below.
pub record DidAdmit {D P : Type 0} {d : device.Ghosts D} {p : policy.Ghosts P} (pool : Pool D P d p) (kind : Kind) (page t : ℕ) (v : Vacancy) (pool' : Pool D P d p) : Type 0 where
  pub took : DidTake pool kind page t pool'
  pub fetched : took.outcome ≡ Fetch v.leaving
  pub row : (q : ℕ) → d.row pool'.device q ≡ d.row pool.device q

-- The place of a grant's page, if the grant is out.
abbrev pub Out : {D P : Type 0} {d : device.Ghosts D} {p : policy.Ghosts P} → Pool D P d p → Ticket → Result Place Refusal → Type 0
Out pool t (Ok i) = (is_granted (book pool) t.kind t.mark t.page ≡ None) × (i.index < pool.frames.used) × (page_in (frame pool.frames i.index) ≡ t.page) × (0 < pins_of t.kind (frame pool.frames i.index).slot)
Out pool t (Err e) = is_granted (book pool) t.kind t.mark t.page ≡ Some e

-- The answer of a fix, as the book gives it.
abbrev pub fixed_answer : Result (Unit {0}) Refusal → Kind → (mark page : ℕ) → Answer
fixed_answer (Ok x) kind mark page = Granted (record { kind = kind; mark = mark; page = page })
fixed_answer (Err e) kind mark page = Refused e

-- The first k frames have been written back, since a pool was as it was at first.
pub record DidSettle {D P : Type 0} {d : device.Ghosts D} {p : policy.Ghosts P} (first : Pool D P d p) (k : ℕ) (pool : Pool D P d p) : Type 0 where
  pub next : book pool ≡ book first
  pub policy : pool.policy ≡ first.policy
  pub hits : pool.hits ≡ first.hits
  pub fetches : pool.fetches ≡ first.fetches
  pub clean : (i : ℕ) → i < k → i < pool.frames.used → (frame pool.frames i).slot.changed ≡ false
