-- How long the lists are, and how often a page stands in them.
use Rattle.std.proofs.Common.{◌≡◌, ℕ, ◌+◌, ◌<◌, ◌≤◌, Bool, true, false, cond, eqb, List, ◌∷◌, length, take, Some, None, Option, sym, refl, arith, eqb-true}
use Rattle.std.proofs.lemmas.Bool.{false≢true}
use Rattle.recency.proofs.Pages.{by_bool}
use Rattle.policy.specs.Sets.{member, count}
use Rattle.policy.proofs.Admissions.{Leaves}
use Rattle.policy.proofs.Counts.{count_held, count_none, length-less, member-less}
use Rattle.two_q.specs.Lists.{less, moved}
use Rattle.two_q.specs.Model.{Model, kout, resident, size, gone}

pub neither : (a b : Bool) → cond a true b ≡ false → (a ≡ false) × (b ≡ false)
neither true b h = absurd (false≢true (sym h))
neither false b h = (refl, h)

pub length_moved : (p : ℕ) (xs : List ℕ) → length (moved p xs) ≡ length xs
length_moved p xs = by_bool (member p xs) (λ e. rw e (omega (arith, length-less p xs e))) (λ e. rw e)

pub count-moved : (p r : ℕ) (xs : List ℕ) → count r (moved p xs) ≡ count r xs
count-moved p r xs = by_bool (member p xs) (λ e. rw e (count_held p r xs e)) (λ e. rw e)

-- a page that is in neither list may stand once more
pub fresh : (q : ℕ) (xs ys : List ℕ) → ((p : ℕ) → count p xs + count p ys ≤ 1) → member q xs ≡ false → member q ys ≡ false → (p : ℕ) → cond (eqb q p) 1 0 + count p xs + count p ys ≤ 1
fresh q xs ys h a b p =
    by_bool (eqb q p)
    (λ e. let s = eqb-true q p e in
    let u : count p xs ≡ 0 = rw (← s) (count_none q xs a) in
    let v : count p ys ≡ 0 = rw (← s) (count_none q ys b) in
    rw e (omega arith))
    (λ e. rw e (omega (arith, h p)))

-- after a resident page has left there is a place free, and no page has come in
pub gone-room : (m : Model) (q b : ℕ) → resident m q ≡ true → size m ≤ b → size (gone m (Some q)) < b
gone-room m q b r l =
    by_bool (member q m.am) (λ e. rw e (omega (arith, length-less q m.am e))) (λ e. rw e (omega (arith, length-less q m.a1in (rw e at r))))

pub gone-absent : (m : Model) (q p : ℕ) → resident m p ≡ false → resident (gone m (Some q)) p ≡ false
gone-absent m q p r =
    let no = neither _ _ r in
    by_bool (member q m.am) (λ e. rw (e, member-less p q m.am no.0) no.1) (λ e. rw (e, no.0) (member-less p q m.a1in no.1))

pub gone-bound : (m : Model) (q : ℕ) → (gone m (Some q)).bound ≡ m.bound
gone-bound m q = by_bool (member q m.am) (λ e. rw e) (λ e. rw e)

-- the same of a leaving page or none
pub room-after : (m : Model) (l : Option ℕ) → Leaves (resident m) (size m) m.bound l → size m ≤ m.bound → size (gone m l) < (gone m l).bound
room-after m None h f = h
room-after m (Some q) h f = let b = gone-bound m q in let r = gone-room m q m.bound h f in omega arith

pub absent-after : (m : Model) (l : Option ℕ) (p : ℕ) → resident m p ≡ false → resident (gone m l) p ≡ false
absent-after m None p r = r
absent-after m (Some q) p r = gone-absent m q p r

-- what is left once a page of A1in, or one of Am, has left
pub gone-a1in : (m : Model) (q : ℕ) → member q m.am ≡ false → gone m (Some q) ≡ record { bound = m.bound; am = m.am; a1in = less q m.a1in; a1out = take (kout m) (q ∷ m.a1out) }
gone-a1in m q e = rw e

pub gone_am : (m : Model) (q : ℕ) → member q m.am ≡ true → gone m (Some q) ≡ record { bound = m.bound; am = less q m.am; a1in = m.a1in; a1out = m.a1out }
gone_am m q e = rw e
