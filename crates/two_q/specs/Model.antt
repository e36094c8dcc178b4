-- What 2Q remembers: three lists of pages, each from its head, and the frame count. The pages of Am
-- and of A1in are resident, those of A1out are only remembered.
use Rattle.std.specs.Prelude.{ℕ, ◌+◌, ◌/◌, Bool, true, cond, List, [], ◌∷◌, length, take, Some, None, Option, nat_lt}
use Rattle.std.specs.Option.{option_or}
use Rattle.policy.specs.Sets.{member}
use Rattle.two_q.specs.Lists.{less, moved, nearest_tail}

pub record Model : Type 0 where
  pub bound : ℕ
  pub am : List ℕ
  pub a1in : List ℕ
  pub a1out : List ℕ

-- The lengths that A1in and A1out are meant to have.
abbrev pub kin : Model → ℕ
kin m = m.bound / 4

abbrev pub kout : Model → ℕ
kout m = m.bound / 2

abbrev pub resident : Model → ℕ → Bool
resident m p = cond (member p m.am) true (member p m.a1in)

abbrev pub size : Model → ℕ
size m = length m.am + length m.a1in

abbrev pub empty : ℕ → Model
empty b = record { bound = b; am = []; a1in = []; a1out = [] }

-- A hit in Am moves the page to its head; a hit in A1in alters nothing.
abbrev pub touched : Model → ℕ → Model
touched m p = record { bound = m.bound; am = moved p m.am; a1in = m.a1in; a1out = m.a1out }

-- A1in is preferred if it holds more than Kin pages, otherwise Am. The choice is the listed page
-- nearest the tail of the preferred list or, if that has none, of the other.
abbrev pub chosen : Model → List ℕ → Option ℕ
chosen m listed =
    cond (nat_lt (kin m) (length m.a1in))
    (option_or (nearest_tail listed m.a1in) (nearest_tail listed m.am))
    (option_or (nearest_tail listed m.am) (nearest_tail listed m.a1in))

-- A page is taken out of A1out.
abbrev pub forgotten : Model → ℕ → Model
forgotten m p = record { bound = m.bound; am = m.am; a1in = m.a1in; a1out = less p m.a1out }

-- A page leaves. From A1in it goes to the head of A1out, of which Kout pages are kept; from Am it is
-- not remembered.
abbrev pub gone : Model → Option ℕ → Model
gone m None = m
gone m (Some q) =
    cond (member q m.am)
    (record { bound = m.bound; am = less q m.am; a1in = m.a1in; a1out = m.a1out })
    (record { bound = m.bound; am = m.am; a1in = less q m.a1in; a1out = take (kout m) (q ∷ m.a1out) })

-- A page comes in: to the head of Am if it was remembered, else to the head of A1in.
abbrev pub come : Model → Bool → ℕ → Model
come m known p =
    cond known
    (record { bound = m.bound; am = p ∷ m.am; a1in = m.a1in; a1out = m.a1out })
    (record { bound = m.bound; am = m.am; a1in = p ∷ m.a1in; a1out = m.a1out })

-- An admission. The page is taken out of A1out before the leaving page goes in.
abbrev pub admitted : Model → ℕ → Option ℕ → Model
admitted m p leaving = come (gone (forgotten m p) leaving) (member p m.a1out) p
