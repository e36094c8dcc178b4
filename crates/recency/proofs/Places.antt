-- The place of a page nearest the head.
use Rattle.std.proofs.Common.{◌≡◌, ℕ, zero, suc, ◌+◌, ◌<◌, Bool, true, false, cond, eqb, List, [], ◌∷◌, map, length, IfSome, Some, None, Option, refl, ap, ◌∙◌, arith, eqb-true}
use borrow.Author.Tests.{eqb-false}
use Rattle.std.specs.Option.{option_map}
use Rattle.std.specs.List.{slice_get, position_from}
use Rattle.recency.specs.Recent.{place_of, Nearest}

-- std's search, which counts from a place on
from : {X : Type 0} (f : X → ℕ) (p n : ℕ) (xs : List X) → position_from (λ x. eqb (f x) p) n xs ≡ option_map (λ j. n + j) (place_of p (map f xs))
from f p n [] = refl
from f p n (x ∷ xs) = step (eqb (f x) p) (from f p (n + 1) xs)
  where
    more : (o : Option ℕ) → option_map (λ j. (n + 1) + j) o ≡ option_map (λ j. n + j) (option_map suc o)
    more None = refl
    more (Some j) = ap Some (omega arith)

    step : (b : Bool) → position_from (λ x. eqb (f x) p) (n + 1) xs ≡ option_map (λ j. (n + 1) + j) (place_of p (map f xs))
        → cond b (Some n) (position_from (λ x. eqb (f x) p) (n + 1) xs) ≡ option_map (λ j. n + j) (cond b (Some 0) (option_map suc (place_of p (map f xs))))
    step true h = ap Some (omega arith)
    step false h = h ∙ more (place_of p (map f xs))

pub place_from : {X : Type 0} (f : X → ℕ) (p : ℕ) (xs : List X) → position_from (λ x. eqb (f x) p) 0 xs ≡ place_of p (map f xs)
place_from f p xs = from f p 0 xs ∙ none (place_of p (map f xs))
  where
    none : (o : Option ℕ) → option_map (λ j. 0 + j) o ≡ o
    none None = refl
    none (Some j) = ap Some (omega arith)

-- it is what its name says
pub nearest : (p : ℕ) (ks : List ℕ) → Nearest p ks (place_of p ks)
nearest p [] = λ i h. let z : ◌≡◌ {A = ℕ} 0 1 = cc in omega arith
nearest p (k ∷ ks) = here (eqb k p) refl (nearest p ks)
  where
    apart : eqb k p ≡ false → Some k ≡ Some p → ⊥
    apart e h = let q : k ≡ p = cc in eqb-false k p e q

    none : eqb k p ≡ false → ((i : ℕ) → slice_get ks i ≡ Some p → ⊥) → (i : ℕ) → slice_get (k ∷ ks) i ≡ Some p → ⊥
    none e h zero = apart e
    none e h (suc i) = h i

    before : eqb k p ≡ false → (m : ℕ) → ((j : ℕ) → j < m → slice_get ks j ≡ Some p → ⊥) → (j : ℕ) → j < suc m → slice_get (k ∷ ks) j ≡ Some p → ⊥
    before e m h zero l = apart e
    before e m h (suc j) l = h j (omega arith)

    later : eqb k p ≡ false → (o : Option ℕ) → Nearest p ks o → Nearest p (k ∷ ks) (option_map suc o)
    later e None h = none e h
    later e (Some m) h = (h.0, before e m h.1)

    here : (b : Bool) → eqb k p ≡ b → Nearest p ks (place_of p ks) → Nearest p (k ∷ ks) (cond b (Some 0) (option_map suc (place_of p ks)))
    here true e h = (ap Some (eqb-true k p e), λ j l. absurd (omega arith))
    here false e h = later e (place_of p ks) h

-- a place that is found lies in the list
pub place-within : {X : Type 0} (f : X → ℕ) (p : ℕ) (xs : List X) → IfSome (place_of p (map f xs)) (λ i. i < length xs)
place-within f p [] = tt
place-within f p (x ∷ xs) = here (eqb (f x) p) (place-within f p xs)
  where
    later : (o : Option ℕ) → IfSome o (λ i. i < length xs) → IfSome (option_map suc o) (λ i. i < length (x ∷ xs))
    later None h = tt
    later (Some m) h = omega arith

    here : (b : Bool) → IfSome (place_of p (map f xs)) (λ i. i < length xs) → IfSome (cond b (Some 0) (option_map suc (place_of p (map f xs)))) (λ i. i < length (x ∷ xs))
    here true h = omega arith
    here false h = later (place_of p (map f xs)) h
