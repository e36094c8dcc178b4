-- A page is in the buffer or retained, and not both, and stands there once; no time is yet to come.
-- Every reference keeps that.
use Rattle.std.proofs.Common.{◌≡◌, ℕ, ◌+◌, ◌/◌, ◌<◌, ◌≤◌, Bool, true, false, cond, eqb, ◌∷◌, length, Some, None, Option, refl, subst, arith}
use Rattle.std.proofs.lemmas.Bool.{eqb-true}
use Rattle.recency.proofs.Pages.{by_bool}
use Rattle.policy.specs.Once.{self_counted}
use Rattle.policy.specs.Sets.{member, count}
use Rattle.policy.proofs.Counts.{count_none, count_held, count_less_le, count-take, length-less}
use Rattle.lru_two.specs.Printed.{State, assign, uncorrelated, updated, emptied, remember, fetched, without, nothing}

abbrev pub total : ℕ → State → ℕ
total p s = count p s.buffer + count p s.retained

-- n is the time of the last reference
pub record Sound (frames n : ℕ) (s : State) : Type 0 where
  pub once : (p : ℕ) → total p s ≤ 1
  pub few : length s.buffer ≤ frames
  pub first : (q : ℕ) → s.hist1 q ≤ n
  pub second : (q : ℕ) → s.hist2 q ≤ n

pub nothing-sound : (frames : ℕ) → Sound frames 0 nothing
nothing-sound frames = record { once = λ p. omega arith; few = omega arith; first = λ q. omega arith; second = λ q. omega arith }

assign_le : (f : ℕ → ℕ) (p v q n : ℕ) → v ≤ n → f q ≤ n → assign f p v q ≤ n
assign_le f p v q n a b = by_bool (eqb q p) (λ e. rw e a) (λ e. rw e b)

pub updated-sound : (frames crp n : ℕ) (s : State) (p : ℕ) → Sound frames n s → Sound frames (n + 1) (updated crp s (n + 1) p)
updated-sound frames crp n s p h = by (uncorrelated crp s (n + 1) p) refl
  where
    by : (b : Bool) → uncorrelated crp s (n + 1) p ≡ b → Sound frames (n + 1) (updated crp s (n + 1) p)
    by true e = rw e (record {
      once = h.once;
      few = h.few;
      first = λ q. (let a = h.first q in assign_le s.hist1 p (n + 1) q (n + 1) (omega arith) (omega arith));
      second = λ q. (let a = h.second q in let c = h.first p in assign_le s.hist2 p (s.hist1 p) q (n + 1) (omega arith) (omega arith));
    })
    by false e = rw e (record { once = h.once; few = h.few; first = λ q. omega (arith, h.first q); second = λ q. omega (arith, h.second q) })

-- a page out of the buffer stands nowhere once it is taken out of those retained
pub out_of : (frames n : ℕ) (s : State) (p : ℕ) → Sound frames n s → member p s.buffer ≡ false → count p (without p s.retained) ≡ 0
out_of frames n s p h away =
    let o = h.once p in
    by_bool (member p s.retained)
    (λ m. let c = count_held p p s.retained m in let l = self_counted p (count p (without p s.retained)) in omega arith)
    (λ m. let c = count_none p s.retained m in let l = count_less_le p p s.retained in omega arith)

-- a page that stands nowhere may come in
fresh : (p r a b : ℕ) → (eqb p r ≡ true → a + b ≡ 0) → a + b ≤ 1 → cond (eqb p r) 1 0 + a + b ≤ 1
fresh p r a b z h = by_bool (eqb p r) (λ e. rw e (let w = z e in omega arith)) (λ e. rw e (omega arith))

-- the page that is dropped is in the buffer, or a frame is free
abbrev pub Drops : ℕ → State → Option ℕ → Type 0
Drops frames s None = length s.buffer < frames
Drops frames s (Some v) = member v s.buffer ≡ true

moved-total : (frames : ℕ) (s : State) (p : ℕ) (out : Option ℕ) → Drops frames s out → (r : ℕ) → count r (emptied out s.buffer) + count r (remember frames out (without p s.retained)) ≤ count r s.buffer + count r (without p s.retained)
moved-total frames s p None d r = omega arith
moved-total frames s p (Some v) d r =
    let a = count_held v r s.buffer d in
    let b = count-take r (frames / 2) (v ∷ without p s.retained) in
    omega arith

pub length-emptied : (frames : ℕ) (s : State) (out : Option ℕ) → length s.buffer ≤ frames → Drops frames s out → length (emptied out s.buffer) + 1 ≤ frames
length-emptied frames s None h d = omega arith
length-emptied frames s (Some v) h d = let l = length-less v s.buffer d in omega arith

pub fetched-sound : (frames n : ℕ) (s : State) (p : ℕ) (out : Option ℕ) → Sound frames n s → member p s.buffer ≡ false → Drops frames s out → Sound frames (n + 1) (fetched frames s (n + 1) p out)
fetched-sound frames n s p out h away d = record {
  once = λ r. (let m = moved-total frames s p out d r in
      let w = count_less_le p r s.retained in
      let o = h.once r in
      let f = fresh p r (count r (emptied out s.buffer)) (count r (remember frames out (without p s.retained))) (none r) (omega arith) in
      omega arith);
  few = (let l = length-emptied frames s out h.few d in omega arith);
  first = λ q. (let a = h.first q in assign_le s.hist1 p (n + 1) q (n + 1) (omega arith) (omega arith));
  second = λ q. (let a = h.second q in assign_le s.hist2 p _ q (n + 1) (before (member p s.retained)) (omega arith));
}
  where
    none : (r : ℕ) → eqb p r ≡ true → count r (emptied out s.buffer) + count r (remember frames out (without p s.retained)) ≡ 0
    none r e =
        let u = eqb-true p r e in
        let m = moved-total frames s p out d r in
        let a : count r s.buffer ≡ 0 = subst (λ (x : ℕ). count x s.buffer ≡ 0) u (count_none p s.buffer away) in
        let b : count r (without p s.retained) ≡ 0 = subst (λ (x : ℕ). count x (without p s.retained) ≡ 0) u (out_of frames n s p h away) in
        omega arith

    before : (b : Bool) → cond b (s.hist1 p) 0 ≤ n + 1
    before true = omega (arith, h.first p)
    before false = omega arith
