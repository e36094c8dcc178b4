-- A set of pages as a test, and what the calls of a policy make of it.
use Rattle.std.specs.Prelude.{◌≡◌, ℕ, ◌+◌, ◌≤◌, Bool, true, false, cond, List, [], ◌∷◌, length, Some, None, Option, ◌==◌, nat_lt}
pub use Rattle.recency.specs.Recent.{member}

-- No page stands twice.
abbrev pub distinct : List ℕ → Bool
distinct [] = true
distinct (x ∷ xs) = cond (member x xs) false (distinct xs)

-- How often a page stands in a list.
abbrev pub count : ℕ → List ℕ → ℕ
count p [] = 0
count p (x ∷ xs) = cond (x == p) 1 0 + count p xs

-- A set has n pages: there is a list of them, each once.
abbrev pub Counted : (ℕ → Bool) → ℕ → Type 0
Counted s n = (l : List ℕ) × (distinct l ≡ true) × (length l ≡ n) × ((q : ℕ) → s q ≡ member q l)

-- What every policy keeps, from its making on: its bound is a frame count, and it has no more pages
-- resident than that; `size` is the number of them.
pub record Kept (resident : ℕ → Bool) (size bound : ℕ) : Type 0 where
  pub least : 4 ≤ bound
  pub most : bound ≤ 64
  pub within : size ≤ bound
  pub counted : Counted resident size

-- A choice among listed pages: one that is in the set, or none where no listed page is.
abbrev pub Chosen : (ℕ → Bool) → List ℕ → Option ℕ → Type 0
Chosen s l None = (q : ℕ) → member q l ≡ true → s q ≡ false
Chosen s l (Some p) = (member p l ≡ true) × (s p ≡ true)

-- Whether an admission is accepted: not if the page is in the set, the leaving page is not, or
-- nothing leaves a full set.
abbrev pub accepts : (ℕ → Bool) → ℕ → ℕ → ℕ → Option ℕ → Bool
accepts s n bound page None = cond (s page) false (nat_lt n bound)
accepts s n bound page (Some gone) = cond (s page) false (s gone)

-- The set once `page` has come and the leaving page, if any, has gone, and its size.
abbrev pub entered : (ℕ → Bool) → ℕ → Option ℕ → ℕ → Bool
entered s page None q = cond (q == page) true (s q)
entered s page (Some gone) q = cond (q == page) true (cond (q == gone) false (s q))

abbrev pub grown : ℕ → Option ℕ → ℕ
grown n None = n + 1
grown n (Some gone) = n
