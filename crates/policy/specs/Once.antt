-- Lists that, taken together, name each page once.
use Rattle.std.specs.Prelude.{◌≡◌, ℕ, ◌+◌, ◌≤◌, Bool, true, false, cond, List, [], ◌∷◌, ◌++◌, ◌==◌, refl}
use Rattle.std.proofs.Common.{ap, ◌∙◌, arith, eq-eqb}
use Rattle.policy.specs.Sets.{member, distinct, count}

pub member_append : (q : ℕ) (xs ys : List ℕ) → member q (xs ++ ys) ≡ cond (member q xs) true (member q ys)
member_append q [] ys = refl
member_append q (x ∷ xs) ys = step (x == q) (member_append q xs ys)
  where
    step : (b : Bool) → member q (xs ++ ys) ≡ cond (member q xs) true (member q ys) → cond b true (member q (xs ++ ys)) ≡ cond (cond b true (member q xs)) true (member q ys)
    step true h = refl
    step false h = h

-- a page that is counted nowhere stands nowhere
pub not_counted : (q : ℕ) (xs : List ℕ) → count q xs ≡ 0 → member q xs ≡ false
not_counted q [] h = refl
not_counted q (x ∷ xs) h = step (x == q) (not_counted q xs) h
  where
    step : (b : Bool) → (count q xs ≡ 0 → member q xs ≡ false) → cond b 1 0 + count q xs ≡ 0 → cond b true (member q xs) ≡ false
    step true f e = absurd (omega arith)
    step false f e = f (omega arith)

pub self_counted : (x n : ℕ) → cond (x == x) 1 0 + n ≡ 1 + n
self_counted x n = ap (λ (b : Bool). cond b 1 0 + n) (eq-eqb x x refl)

apart : (x : ℕ) (xs : List ℕ) → member x xs ≡ false → distinct xs ≡ true → distinct (x ∷ xs) ≡ true
apart x xs e d = ap (λ (b : Bool). cond b false (distinct xs)) e ∙ d

pub distinct_append : (xs ys : List ℕ) → ((p : ℕ) → count p xs + count p ys ≤ 1) → distinct (xs ++ ys) ≡ true
distinct_append [] [] h = refl
distinct_append [] (y ∷ ys) h =
    let none : count y ys ≡ 0 = omega (arith, h y, self_counted y (count y ys)) in
    apart y ys (not_counted y ys none) (distinct_append [] ys (λ p. omega (arith, h p)))
distinct_append (x ∷ xs) ys h =
    let s = self_counted x (count x xs) in
    let none : count x xs ≡ 0 = omega (arith, h x) in
    let neither : count x ys ≡ 0 = omega (arith, h x) in
    let out : member x (xs ++ ys) ≡ false = member_append x xs ys ∙ ap (λ (b : Bool). cond b true (member x ys)) (not_counted x xs none) ∙ not_counted x ys neither in
    apart x (xs ++ ys) out (distinct_append xs ys (λ p. omega (arith, h p)))
