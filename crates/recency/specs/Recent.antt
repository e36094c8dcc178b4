-- A recency list as a list, from the head.
use Rattle.std.specs.Prelude.{◌≡◌, ℕ, suc, ◌<◌, Bool, true, false, cond, List, [], ◌∷◌, ◌++◌, take, drop, Some, None, Option, ◌==◌, ◌≢◌}
use Rattle.std.specs.Option.{option_map, option_map_or}
use Rattle.std.specs.List.{slice_get}

-- The place of a page nearest the head, among the page numbers of a list.
abbrev pub place_of : ℕ → List ℕ → Option ℕ
place_of p [] = None
place_of p (k ∷ ks) = cond (k == p) (Some 0) (option_map suc (place_of p ks))

-- Which place that is: one that has the page, and no place nearer the head has it. There is none
-- only where no place has it.
abbrev pub Nearest : ℕ → List ℕ → Option ℕ → Type 0
Nearest p ks None = (i : ℕ) → slice_get ks i ≢ Some p
Nearest p ks (Some i) = (slice_get ks i ≡ Some p) × ((j : ℕ) → j < i → slice_get ks j ≢ Some p)

-- The list without the record at a place; the others keep their order.
abbrev pub without : {X : Type 0} → List X → ℕ → List X
without xs i = take i xs ++ drop (suc i) xs

-- The list with the record at a place at its head; the others keep their order.
abbrev pub to_head : {X : Type 0} → List X → ℕ → List X
to_head xs i = take 1 (drop i xs) ++ without xs i

-- Whether a page stands in a list of page numbers.
abbrev pub member : ℕ → List ℕ → Bool
member q [] = false
member q (x ∷ xs) = cond (x == q) true (member q xs)

-- The same by page: the record of a page nearest the head, among records that have a page each.
abbrev pub found : {X : Type 0} → (X → ℕ) → ℕ → List X → Option X
found key p [] = None
found key p (x ∷ xs) = cond (key x == p) (Some x) (found key p xs)

-- The list with the record of a page taken out, at its head, or made anew in its place; the others keep
-- their order.
abbrev pub less : {X : Type 0} → (X → ℕ) → ℕ → List X → List X
less key p [] = []
less key p (x ∷ xs) = cond (key x == p) xs (x ∷ less key p xs)

abbrev pub moved : {X : Type 0} → (X → ℕ) → ℕ → List X → List X
moved key p xs = option_map_or (λ x. x ∷ less key p xs) (found key p xs) xs

abbrev pub renewed : {X : Type 0} → (X → ℕ) → (X → X) → ℕ → List X → List X
renewed key f p [] = []
renewed key f p (x ∷ xs) = cond (key x == p) (f x ∷ xs) (x ∷ renewed key f p xs)
