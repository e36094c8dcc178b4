-- The tail of a queue, and what the model says of the same page.
use Rattle.std.proofs.Common.{◌≡◌, ℕ, zero, suc, ◌+◌, ◌<◌, ◌≤◌, Bool, true, false, cond, eqb, ltb, List, [], ◌∷◌, ◌++◌, reverse, length, take, Some, None, Option, sym, refl, ap, ◌∙◌, arith, ltb-false, ltb-true, eq-eqb}
use Rattle.std.proofs.lemmas.List.{take_all, reverse-append}
use Rattle.std.proofs.lemmas.Bool.Decides.{nat_tests}
use Rattle.std.specs.Option.{option_or}
use Rattle.std.specs.List.{find}
use Rattle.recency.proofs.Pages.{by_bool}
use Rattle.policy.specs.Sets.{member, count}
use Rattle.policy.proofs.Counts.{member-counted}
use Rattle.two_q.specs.Lists.{less, nearest_tail}
use Rattle.two_q.specs.Printed.{tail_of, untailed, cut}

pub tail_of_lem : (x : ℕ) (xs : List ℕ) → (y : ℕ) × (tail_of (x ∷ xs) ≡ Some y)
tail_of_lem x [] = (x, refl)
tail_of_lem x (y ∷ ys) = tail_of_lem y ys

pub some-tail : (xs : List ℕ) → 0 < length xs → (y : ℕ) × (tail_of xs ≡ Some y)
some-tail [] h = absurd (omega arith)
some-tail (x ∷ xs) h = tail_of_lem x xs

or_first : (o u : Option ℕ) (y : ℕ) → o ≡ Some y → option_or o u ≡ o
or_first None u y e = let z : ◌≡◌ {A = ℕ} 0 1 = cc in absurd (omega arith)
or_first (Some x) u y e = refl

-- where every page of a list is listed, the listed page nearest its tail is its tail
pub tail-nearest : (l xs : List ℕ) → ((r : ℕ) → member r xs ≡ true → member r l ≡ true) → nearest_tail l xs ≡ tail_of xs
tail-nearest l [] f = refl
tail-nearest l (x ∷ []) f =
    ap (λ (b : Bool). cond b (Some x) None) (f x (ap (λ (b : Bool). cond b true false) (eq-eqb x x refl)))
tail-nearest l (x ∷ y ∷ ys) f =
    let t = tail_of_lem y ys in
    let i = tail-nearest l (y ∷ ys) (λ r h. f r (later r h)) in
    ap (λ (o : Option ℕ). option_or o (cond (member x l) (Some x) None)) i ∙ or_first (tail_of (y ∷ ys)) _ t.0 t.1
  where
    later : (r : ℕ) → member r (y ∷ ys) ≡ true → member r (x ∷ y ∷ ys) ≡ true
    later r h = grind (arith, nat_tests)

pub tail-member : (xs : List ℕ) (y : ℕ) → tail_of xs ≡ Some y → member y xs ≡ true
tail-member [] y e = let z : ◌≡◌ {A = ℕ} 0 1 = cc in absurd (omega arith)
tail-member (x ∷ []) y e = let s : x ≡ y = cc in ap (λ (b : Bool). cond b true false) (eq-eqb x y s)
tail-member (x ∷ z ∷ zs) y e = let i = tail-member (z ∷ zs) y e in later i
  where
    later : member y (z ∷ zs) ≡ true → member y (x ∷ z ∷ zs) ≡ true
    later h = grind (arith, nat_tests)

-- a queue without its tail is the list with that page taken out
pub less-tail : (xs : List ℕ) (y : ℕ) → tail_of xs ≡ Some y → count y xs ≤ 1 → less y xs ≡ untailed xs
less-tail [] y e h = refl
less-tail (x ∷ []) y e h = let s : x ≡ y = cc in ap (λ (b : Bool). cond b [] (x ∷ [])) (eq-eqb x y s)
less-tail (x ∷ z ∷ zs) y e h =
    let m = member-counted y (z ∷ zs) (tail-member (z ∷ zs) y e) in
    by_bool (eqb x y)
    (λ t. let d = twice t in absurd (omega arith))
    (λ t. let l : count y (z ∷ zs) ≤ 1 = omega arith in
    ap (λ (b : Bool). cond b (z ∷ zs) (x ∷ less y (z ∷ zs))) t ∙ ap (λ (w : List ℕ). x ∷ w) (less-tail (z ∷ zs) y e l))
  where
    twice : eqb x y ≡ true → count y (x ∷ z ∷ zs) ≡ 1 + count y (z ∷ zs)
    twice t = ap (λ (b : Bool). cond b 1 0 + count y (z ∷ zs)) t

take-untailed : (k : ℕ) (xs : List ℕ) → length xs ≡ k + 1 → take k xs ≡ untailed xs
take-untailed k [] h = absurd (omega arith)
take-untailed zero (x ∷ []) h = refl
take-untailed (suc k) (x ∷ []) h = absurd (omega arith)
take-untailed zero (x ∷ y ∷ ys) h = absurd (omega arith)
take-untailed (suc k) (x ∷ y ∷ ys) h = ap (λ (w : List ℕ). x ∷ w) (take-untailed k (y ∷ ys) (omega arith))

-- a queue one too long, cut at its tail, is its front
pub take-cut : (k : ℕ) (xs : List ℕ) → length xs ≤ k + 1 → take k xs ≡ cut k xs
take-cut k xs h =
    by_bool (ltb k (length xs))
    (λ t. take-untailed k xs (let l = ltb-true k (length xs) t in omega arith) ∙ sym (ap (λ (b : Bool). cond b (untailed xs) xs) t))
    (λ t. take_all k xs (ltb-false k (length xs) t) ∙ sym (ap (λ (b : Bool). cond b (untailed xs) xs) t))

-- std's search from the tail
find_push : (t : ℕ → Bool) (xs : List ℕ) (x : ℕ) → find t (xs ++ x ∷ []) ≡ option_or (find t xs) (cond (t x) (Some x) None)
find_push t [] x = refl
find_push t (y ∷ ys) x = by_bool (t y) (λ e. rw e) (λ e. rw e (find_push t ys x))

pub tail_found : (t : ℕ → Bool) (l : List ℕ) → ((x : ℕ) → t x ≡ member x l) → (xs : List ℕ) → find t (reverse xs) ≡ nearest_tail l xs
tail_found t l h [] = refl
tail_found t l h (x ∷ xs) = ap (find t) (reverse-append (x ∷ []) xs) ∙ find_push t (reverse xs) x ∙ (λ i. option_or (tail_found t l h xs i) (cond (h x i) (Some x) None))
