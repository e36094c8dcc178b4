-- What the lists say of the block of a page.
use Rattle.std.proofs.Common.{◌≡◌, ℕ, eqb, List, [], ◌∷◌, refl}
use Rattle.std.specs.List.{find}
use Rattle.std.specs.Option.{option_map_or}
use Rattle.recency.proofs.Pages.{by_bool}
use Rattle.blocks.specs.declared.block.Block.{Block}
use Rattle.blocks.specs.Blocks.{found, earlier}

-- std's search
pub found_first : (p : ℕ) (bs : List Block) → find (λ (b : Block). eqb b.page p) bs ≡ found p bs
found_first p [] = refl
found_first p (b ∷ bs) = by_bool (eqb b.page p) (λ e. rw e) (λ e. rw e (found_first p bs))

-- HIST1 of a page is read off its block
pub earlier_is : (p : ℕ) (bs : List Block) → option_map_or (λ (b : Block). b.hist1) (found p bs) 0 ≡ earlier p bs
earlier_is p [] = refl
earlier_is p (b ∷ bs) = by_bool (eqb b.page p) (λ e. rw e) (λ e. rw e (earlier_is p bs))
