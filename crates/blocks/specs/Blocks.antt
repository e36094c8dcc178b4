-- History blocks, and lists of them.
use Rattle.std.specs.Prelude.{ℕ, ◌-◌, Bool, true, false, cond, List, [], ◌∷◌, map, Some, None, Option, ◌==◌, nat_lt}
use Rattle.recency.specs.Recent as recent
use Rattle.policy.specs.Sets.{member}
use Rattle.blocks.specs.declared.block.Block.{Block}

abbrev pub pages : List Block → List ℕ
pages bs = map (λ (b : Block). b.page) bs

-- The block of a page, or none.
abbrev pub found : ℕ → List Block → Option Block
found p bs = recent.found (λ (b : Block). b.page) p bs

-- HIST1 of a page, or 0 where it has no block.
abbrev pub earlier : ℕ → List Block → ℕ
earlier p [] = 0
earlier p (b ∷ bs) = cond (b.page == p) b.hist1 (earlier p bs)

-- The list with the block of a page taken out, or made anew in its place; the others keep their order.
abbrev pub less : ℕ → List Block → List Block
less p bs = recent.less (λ (b : Block). b.page) p bs

abbrev pub renewed : (Block → Block) → ℕ → List Block → List Block
renewed f p bs = recent.renewed (λ (b : Block). b.page) f p bs

-- A page is outside its period when more than CRP has passed since LAST; a time before LAST counts
-- as no time passed.
abbrev pub outside : ℕ → ℕ → Block → Bool
outside crp t b = nat_lt crp (t - b.last)

-- A hit outside the period moves HIST1 into HIST2 and the time into HIST1; every hit sets LAST.
abbrev pub refreshed : ℕ → ℕ → Block → Block
refreshed crp t b =
    cond (outside crp t b)
    (record { page = b.page; hist1 = t; hist2 = b.hist1; last = t })
    (record { page = b.page; hist1 = b.hist1; hist2 = b.hist2; last = t })

-- Which of two pages is to leave first: the one with the lesser HIST2, then the lesser LAST, then
-- the lesser page number.
abbrev pub before : Block → Block → Bool
before a b =
    cond (a.hist2 == b.hist2)
    (cond (a.last == b.last) (nat_lt a.page b.page) (nat_lt a.last b.last))
    (nat_lt a.hist2 b.hist2)

-- The pages that may leave: listed and, where a period is given, outside it.
abbrev pub allowed : Option ℕ → ℕ → Block → Bool
allowed None t b = true
allowed (Some crp) t b = outside crp t b

abbrev pub candidate : List ℕ → Option ℕ → ℕ → Block → Bool
candidate listed period t b = cond (member b.page listed) (allowed period t b) false

-- The scan: the block that is to leave first, of the best so far and the candidates of a list.
abbrev pub lesser : Option Block → Block → Block
lesser None b = b
lesser (Some a) b = cond (before b a) b a

abbrev pub scanned : (Block → Bool) → Option Block → List Block → Option Block
scanned ok best [] = best
scanned ok best (b ∷ bs) = scanned ok (cond (ok b) (Some (lesser best b)) best) bs
