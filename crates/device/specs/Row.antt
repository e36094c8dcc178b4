use Rattle.std.specs.Prelude.{ℕ, cond, List, Some, None, Ok, Err, Option, Result, ◌==◌}
use Rattle.page.specs.declared.origin.Origin.{Origin}
use Rattle.page.specs.declared.state.State.{State}
use Rattle.page.specs.declared.state.State.TheVariants.{Sound, Worn, Lost}
use Rattle.page.specs.declared.refusal.Refusal.{Refusal}
use Rattle.page.specs.declared.refusal.Refusal.TheVariants.{NoSuchPage, LostPage, WornPage}
use Rattle.page.specs.Raise.{raised}

-- A page of a device: a sound and a worn page have bytes, a worn and a lost one an origin.
pub data Page : Type 0 where
  sound : List ℕ → Page
  worn : Origin → List ℕ → Page
  lost : Origin → Page

-- What a device means: the page at each place, and none from its count on.
abbrev pub Row : Type 0
Row = ℕ → Option Page

abbrev pub state_of : Page → State
state_of (sound bs) = Sound
state_of (worn o bs) = Worn o
state_of (lost o) = Lost o

-- What the calls answer at a place that has a page or none. The questions come in this order: is
-- there such a page, is it not lost, and for a write, is it not worn.
abbrev pub state_at : Option Page → Result State Refusal
state_at None = Err NoSuchPage
state_at (Some p) = Ok (state_of p)

abbrev pub read_at : Option Page → Result (Unit {0}) Refusal
read_at None = Err NoSuchPage
read_at (Some (sound bs)) = Ok tt
read_at (Some (worn o bs)) = Ok tt
read_at (Some (lost o)) = Err (LostPage o)

abbrev pub write_at : Option Page → Result (Unit {0}) Refusal
write_at None = Err NoSuchPage
write_at (Some (sound bs)) = Ok tt
write_at (Some (worn o bs)) = Err (WornPage o)
write_at (Some (lost o)) = Err (LostPage o)

-- What a buffer holds after a read: the page's bytes, or on a refusal what it held.
abbrev pub filled_at : Option Page → List ℕ → List ℕ
filled_at None old = old
filled_at (Some (sound bs)) old = bs
filled_at (Some (worn o bs)) old = bs
filled_at (Some (lost o)) old = old

-- A page after a write to it: only a sound one takes new bytes.
abbrev pub overwritten : Page → List ℕ → Page
overwritten (sound old) new = sound new
overwritten (worn o old) new = worn o old
overwritten (lost o) new = lost o

abbrev pub over_at : Option Page → List ℕ → Option Page
over_at None new = None
over_at (Some p) new = Some (overwritten p new)

-- A row after a write: one page is replaced, and nothing else.
abbrev pub written : Row → ℕ → List ℕ → Row
written r page new k = cond (k == page) (over_at (r k) new) (r k)

-- A page as one layer above shows it: its origin's page is carried up, its depth one greater.
abbrev pub up : Page → Page
up (sound bs) = sound bs
up (worn o bs) = worn (raised o) bs
up (lost o) = lost (raised o)

abbrev pub up_at : Option Page → Option Page
up_at None = None
up_at (Some p) = Some (up p)
