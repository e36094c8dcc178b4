-- What a pool keeps among its parts, from its opening on: its type carries it.
use Rattle.std.specs.Prelude.{◌≡◌, ℕ, ◌<◌, Bool, false, List, length, is_some, Some, None, Option}
use Rattle.std.specs.Coded.{Coded-set, coded_ℕ, coded_bool, coded_list}
use Rattle.device.specs.Row.{Page, sound, worn, lost, Row}
use Rattle.frames.specs.Table.{Frame, page_in, at}

-- A frame stands over a page of the device: one that is not changed has the page's bytes, and a worn
-- page is not changed and has no grant for update.
abbrev pub Over : Frame → Page → Type 0
Over f (sound bs) = f.slot.changed ≡ false → bs ≡ f.bytes
Over f (worn o bs) = (f.slot.changed ≡ false) × (f.slot.updaters ≡ 0) × (bs ≡ f.bytes)
Over f (lost o) = ⊥

abbrev pub Stands : Option Frame → Option Page → Type 0
Stands None o = Unit {0}
Stands (Some f) None = ⊥
Stands (Some f) (Some pg) = (length f.bytes ≡ 512) × Over f pg

-- No page is in two of the first n frames.
abbrev pub Once : ℕ → (ℕ → Frame) → Type 0
Once n F = (i j : ℕ) → i < n → j < n → page_in (F i) ≡ page_in (F j) → i ≡ j

-- The first n frames, the row below and the policy's resident pages go together.
pub record Tied (n : ℕ) (F : ℕ → Frame) (row : Row) (resident : ℕ → Bool) (size : ℕ) : Type 0 where
  pub once : Once n F
  pub stands : (q : ℕ) → Stands (at n F q) (row q)
  pub same : (q : ℕ) → resident q ≡ is_some (at n F q)
  pub filled : size ≡ n

-- Each has at most one proof, as a ghost field has to.
number-prop : (x y : ℕ) → IsProp (x ≡ y)
number-prop = Coded-set coded_ℕ

bool-prop : (x y : Bool) → IsProp (x ≡ y)
bool-prop = Coded-set coded_bool

bytes-prop : (x y : List ℕ) → IsProp (x ≡ y)
bytes-prop = Coded-set (coded_list coded_ℕ)

worn-prop : (changed : Bool) (updaters : ℕ) (x y : List ℕ) → IsProp ((changed ≡ false) × (updaters ≡ 0) × (x ≡ y))
worn-prop changed updaters x y = Prim.hlevel (number-prop, bool-prop, bytes-prop)

Over-prop : (f : Frame) (pg : Page) → IsProp (Over f pg)
Over-prop f (sound bs) = Prim.hlevel bytes-prop
Over-prop f (worn o bs) = worn-prop f.slot.changed f.slot.updaters bs f.bytes
Over-prop f (lost o) = Prim.hlevel

Stands-prop : (f : Option Frame) (o : Option Page) → IsProp (Stands f o)
Stands-prop None o = Prim.hlevel
Stands-prop (Some f) None = Prim.hlevel
Stands-prop (Some f) (Some pg) = Prim.hlevel (number-prop, Over-prop)

pub Tied-prop : (n : ℕ) (F : ℕ → Frame) (row : Row) (resident : ℕ → Bool) (size : ℕ) → IsProp (Tied n F row resident size)
Tied-prop n F row resident size = Prim.hlevel (number-prop, bool-prop, Stands-prop)
