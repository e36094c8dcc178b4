-- Which pages stand in a list of blocks.
use Rattle.std.proofs.Common.{◌≡◌, ℕ, true, false, eqb, List, [], ◌∷◌, refl, ap}
use Rattle.recency.proofs.Pages.{by_bool}
use Rattle.policy.specs.Sets.{member, distinct}
use Rattle.blocks.specs.declared.block.Block.{Block}
use Rattle.blocks.specs.Blocks.{pages, renewed, outside, refreshed}

-- the pages of the list stay
pub pages-renewed : (f : Block → Block) → ((b : Block) → (f b).page ≡ b.page) → (p : ℕ) (bs : List Block) → pages (renewed f p bs) ≡ pages bs
pages-renewed f k p [] = refl
pages-renewed f k p (b ∷ bs) =
    by_bool (eqb b.page p) (λ e. rw e (ap (λ (x : ℕ). x ∷ pages bs) (k b))) (λ e. rw e (ap (λ (xs : List ℕ). b.page ∷ xs) (pages-renewed f k p bs)))

pub same-page : (crp t : ℕ) (b : Block) → (refreshed crp t b).page ≡ b.page
same-page crp t b = by_bool (outside crp t b) (λ e. rw e) (λ e. rw e)

pub distinct_more : (b : Block) (bs : List Block) → member b.page (pages bs) ≡ false → distinct (pages bs) ≡ true → distinct (pages (b ∷ bs)) ≡ true
distinct_more b bs e h = rw e h
