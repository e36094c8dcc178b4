-- The blocks of a printed state, page by page.
use Rattle.std.proofs.Common.{◌≡◌, ℕ, Bool, true, false, cond, eqb, List, [], ◌∷◌, map, Some, Option, sym, refl, ap, ◌∙◌, subst, arith}
use Rattle.std.proofs.lemmas.Bool.{false≢true, eqb-true}
use Rattle.std.proofs.lemmas.Bool.Decides.{nat_tests}
use Rattle.policy.specs.Sets.{member, distinct}
use Rattle.blocks.specs.declared.block.Block.{Block}
use Rattle.blocks.specs.Blocks.{pages, found, earlier, less, renewed, refreshed}
use Rattle.lru_two.specs.AsPrinted.{block_of}
use Rattle.lru_two.specs.Printed.{State, uncorrelated, updated, fetched, without}
use Rattle.recency.proofs.Pages.{by_bool}

pub pages_of : (s : State) (xs : List ℕ) → pages (map (block_of s) xs) ≡ xs
pages_of s [] = refl
pages_of s (x ∷ xs) = ap (λ (t : List ℕ). x ∷ t) (pages_of s xs)

pub found_of : (s : State) (q : ℕ) (xs : List ℕ) → member q xs ≡ true → found q (map (block_of s) xs) ≡ Some (block_of s q)
found_of s q [] h = absurd (false≢true h)
found_of s q (x ∷ xs) h =
    by_bool (eqb x q)
    (λ e. rw e (ap (λ (y : ℕ). Some (block_of s y)) (eqb-true x q e)))
    (λ e. rw e (found_of s q xs (rw e at h)))

pub earlier_of : (s : State) (q : ℕ) (xs : List ℕ) → earlier q (map (block_of s) xs) ≡ cond (member q xs) (s.hist1 q) 0
earlier_of s q [] = refl
earlier_of s q (x ∷ xs) =
    by_bool (eqb x q)
    (λ e. rw e (ap s.hist1 (eqb-true x q e)))
    (λ e. rw e (earlier_of s q xs))

pub less_of : (s : State) (q : ℕ) (xs : List ℕ) → less q (map (block_of s) xs) ≡ map (block_of s) (without q xs)
less_of s q [] = refl
less_of s q (x ∷ xs) = by_bool (eqb x q) (λ e. rw e) (λ e. rw e (ap (λ (t : List Block). block_of s x ∷ t) (less_of s q xs)))

-- two states agree on every page but p
abbrev pub Beside : ℕ → State → State → Type 0
Beside p s s' = (x : ℕ) → eqb x p ≡ false → block_of s x ≡ block_of s' x

pub elsewhere : (p : ℕ) (s s' : State) → Beside p s s' → (xs : List ℕ) → member p xs ≡ false → map (block_of s) xs ≡ map (block_of s') xs
elsewhere p s s' h [] n = refl
elsewhere p s s' h (x ∷ xs) n =
    by_bool (eqb x p)
    (λ e. absurd (false≢true (sym n ∙ ap (λ (b : Bool). cond b true (member p xs)) e)))
    (λ e. λ i. h x e i ∷ elsewhere p s s' h xs (rw e at n) i)

-- a list in which p stands once
pub anew : (p : ℕ) (f : Block → Block) (s s' : State) → Beside p s s' → f (block_of s p) ≡ block_of s' p → (xs : List ℕ) → distinct xs ≡ true → renewed f p (map (block_of s) xs) ≡ map (block_of s') xs
anew p f s s' h g [] d = refl
anew p f s s' h g (x ∷ xs) d =
    let apart : (member x xs ≡ false) × (distinct xs ≡ true) = by_bool (member x xs) (λ m. absurd (false≢true (rw m at d))) (λ m. (m, rw m at d)) in
    by_bool (eqb x p)
    (λ e. let u = eqb-true x p e in
    let here : f (block_of s x) ≡ block_of s' x = subst (λ (y : ℕ). f (block_of s y) ≡ block_of s' y) (sym u) g in
    let away : member p xs ≡ false = subst (λ (y : ℕ). member y xs ≡ false) u apart.0 in
    let rest = elsewhere p s s' h xs away in
    rw e (λ i. here i ∷ rest i))
    (λ e. let here = h x e in let rest = anew p f s s' h g xs apart.1 in rw e (λ i. here i ∷ rest i))

itself : (p : ℕ) → eqb p p ≡ true
itself p = grind (arith, nat_tests)

-- what a hit makes of the blocks
pub updated-beside : (crp : ℕ) (s : State) (t p : ℕ) → Beside p s (updated crp s t p)
updated-beside crp s t p x e = by_bool (uncorrelated crp s t p) (λ u. rw (u, e)) (λ u. rw (u, e))

pub updated-here : (crp : ℕ) (s : State) (t p : ℕ) → refreshed crp t (block_of s p) ≡ block_of (updated crp s t p) p
updated-here crp s t p = by_bool (uncorrelated crp s t p) (λ u. rw (u, itself p)) (λ u. rw (u, itself p))

-- what a fetch makes of them
pub fetched-beside : (frames : ℕ) (s : State) (t p : ℕ) (out : Option ℕ) → Beside p s (fetched frames s t p out)
fetched-beside frames s t p out x e = rw e

pub fetched-here : (frames : ℕ) (s : State) (t p : ℕ) (out : Option ℕ) → record { page = p; hist1 = t; hist2 = cond (member p s.retained) (s.hist1 p) 0; last = t } ≡ block_of (fetched frames s t p out) p
fetched-here frames s t p out = rw (itself p)
