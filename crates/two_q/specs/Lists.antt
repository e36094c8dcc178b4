-- Lists of pages, from the head.
use Rattle.std.specs.Prelude.{ℕ, cond, List, [], ◌∷◌, Some, None, Option}
use Rattle.std.specs.Option.{option_or}
use Rattle.recency.specs.Recent as recent
use Rattle.policy.specs.Sets.{member}

-- The list with a page taken out; the others keep their order.
abbrev pub less : ℕ → List ℕ → List ℕ
less p xs = recent.less (λ (x : ℕ). x) p xs

-- The list with a page that it holds at its head; the others keep their order.
abbrev pub moved : ℕ → List ℕ → List ℕ
moved p xs = cond (member p xs) (p ∷ less p xs) xs

-- The listed page nearest the tail, or none.
abbrev pub nearest_tail : List ℕ → List ℕ → Option ℕ
nearest_tail listed [] = None
nearest_tail listed (x ∷ xs) = option_or (nearest_tail listed xs) (cond (member x listed) (Some x) None)
