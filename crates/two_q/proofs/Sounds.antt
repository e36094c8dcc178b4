-- A page stands in one of the three lists at most, and no list is too long. Every step keeps that.
use Rattle.std.proofs.Common.{◌≡◌, ℕ, ◌+◌, ◌/◌, ◌<◌, ◌≤◌, Bool, true, false, cond, eqb, ◌∷◌, ◌++◌, length, Some, None, Option, sym, ap, ◌∙◌, subst, arith, length-append, eqb-true}
use Rattle.std.proofs.lemmas.List.{length-take}
use Rattle.recency.proofs.Pages.{by_bool}
use Rattle.policy.specs.Once.{self_counted, member_append, distinct_append}
use Rattle.policy.specs.Sets.{member, count, Kept}
use Rattle.policy.proofs.Admissions.{Leaves}
use Rattle.policy.proofs.Counts.{length_less_le, count_held, count_none, count_less_le, count-take}
use Rattle.two_q.specs.Lists.{less}
use Rattle.two_q.specs.Model.{Model, kout, resident, size, empty, touched, forgotten, gone, come, admitted}
use Rattle.two_q.proofs.Counts.{neither, length_moved, count-moved, gone-room, gone-bound}

abbrev pub total : ℕ → Model → ℕ
total p m = count p m.am + count p m.a1in + count p m.a1out

pub record Sound (m : Model) : Type 0 where
  pub once : (p : ℕ) → total p m ≤ 1
  pub few : size m ≤ m.bound
  pub short : length m.a1out ≤ kout m
  pub least : 4 ≤ m.bound
  pub most : m.bound ≤ 64

pub kept-sound : (m : Model) → Sound m → Kept (resident m) (size m) m.bound
kept-sound m s = record {
  least = s.least;
  most = s.most;
  within = s.few;
  counted = (m.am ++ m.a1in, distinct_append m.am m.a1in (λ p. omega (arith, s.once p)), length-append m.am m.a1in, λ p. sym (member_append p m.am m.a1in));
}

pub empty-sound : (b : ℕ) → 4 ≤ b → b ≤ 64 → Sound (empty b)
empty-sound b l h = record { once = λ p. omega arith; few = omega arith; short = omega arith; least = l; most = h }

pub touched-sound : (m : Model) (p : ℕ) → Sound m → Sound (touched m p)
touched-sound m p s = record {
  once = λ r. omega (arith, s.once r, count-moved p r m.am);
  few = omega (arith, s.few, length_moved p m.am);
  short = s.short;
  least = s.least;
  most = s.most;
}

pub forgotten-sound : (m : Model) (p : ℕ) → Sound m → Sound (forgotten m p)
forgotten-sound m p s = record {
  once = λ r. omega (arith, s.once r, count_less_le p r m.a1out);
  few = s.few;
  short = omega (arith, s.short, length_less_le p m.a1out);
  least = s.least;
  most = s.most;
}

-- a page that is not resident stands nowhere once it is forgotten
pub forgotten-none : (m : Model) (p : ℕ) → Sound m → resident m p ≡ false → total p (forgotten m p) ≡ 0
forgotten-none m p s h =
    let away = neither (member p m.am) (member p m.a1in) h in
    let a = count_none p m.am away.0 in
    let i = count_none p m.a1in away.1 in
    let o = s.once p in
    by_bool (member p m.a1out)
    (λ t. let c = count_held p p m.a1out t in let l = self_counted p (count p (less p m.a1out)) in omega arith)
    (λ t. let c = count_none p m.a1out t in let l = count_less_le p p m.a1out in omega arith)

-- no page stands more often once another has left
pub gone-total : (m : Model) (q p : ℕ) → resident m q ≡ true → total p (gone m (Some q)) ≤ total p m
gone-total m q p e =
    by_bool (member q m.am)
    (λ t. let c = count_less_le q p m.am in rw t (omega arith))
    (λ t. let c = count_held q p m.a1in (rw t at e) in let k = count-take p (kout m) (q ∷ m.a1out) in rw t (omega arith))

gone-short : (m : Model) (q : ℕ) → length m.a1out ≤ kout m → length (gone m (Some q)).a1out ≤ kout m
gone-short m q h = by_bool (member q m.am) (λ t. rw t h) (λ t. rw t (let k = length-take (kout m) (q ∷ m.a1out) in omega arith))

gone_bound_is : (m : Model) (q : ℕ) → m.bound ≡ (gone m (Some q)).bound
gone_bound_is m q = sym (gone-bound m q)

pub gone-sound : (m : Model) (q : ℕ) → Sound m → resident m q ≡ true → Sound (gone m (Some q))
gone-sound m q s e = record {
  once = λ p. (let h = gone-total m q p e in let o = s.once p in omega arith);
  few = (let r = gone-room m q m.bound e s.few in let b = gone_bound_is m q in omega arith);
  short = subst (λ (b : ℕ). length (gone m (Some q)).a1out ≤ b / 2) (gone_bound_is m q) (gone-short m q s.short);
  least = subst (λ (b : ℕ). 4 ≤ b) (gone_bound_is m q) s.least;
  most = subst (λ (b : ℕ). b ≤ 64) (gone_bound_is m q) s.most;
}

-- a page that stands nowhere may come in
fresh : (m : Model) (p r : ℕ) → total p m ≡ 0 → total r m ≤ 1 → cond (eqb p r) 1 0 + total r m ≤ 1
fresh m p r z h =
    by_bool (eqb p r)
    (λ t. let n : total r m ≡ 0 = ap (λ (x : ℕ). total x m) (sym (eqb-true p r t)) ∙ z in rw t (omega arith))
    (λ t. rw t (omega arith))

pub come-sound : (m : Model) (k : Bool) (p : ℕ) → Sound m → size m < m.bound → total p m ≡ 0 → Sound (come m k p)
come-sound m true p s h z = record {
  once = λ r. (let f = fresh m p r z (s.once r) in omega arith);
  few = omega arith;
  short = s.short;
  least = s.least;
  most = s.most;
}
come-sound m false p s h z = record {
  once = λ r. (let f = fresh m p r z (s.once r) in omega arith);
  few = omega arith;
  short = s.short;
  least = s.least;
  most = s.most;
}

pub admitted-sound : (m : Model) (p : ℕ) (l : Option ℕ) → Sound m → resident m p ≡ false → Leaves (resident m) (size m) m.bound l → Sound (admitted m p l)
admitted-sound m p None s away h = come-sound (forgotten m p) (member p m.a1out) p (forgotten-sound m p s) h (forgotten-none m p s away)
admitted-sound m p (Some q) s away h =
    let f = forgotten m p in
    let g = gone f (Some q) in
    let t = gone-total f q p h in
    let z = forgotten-none m p s away in
    let r = gone-room f q m.bound h s.few in
    let b = gone_bound_is f q in
    come-sound g (member p m.a1out) p (gone-sound f q (forgotten-sound m p s) h) (omega arith) (omega arith)
