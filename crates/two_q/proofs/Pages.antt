-- What a table of page numbers says by page.
use Rattle.std.proofs.Common.{◌≡◌, ℕ, false, List, ◌∷◌, Option, ap, ◌∙◌}
use Rattle.std.specs.Option.{option_map_or}
use Rattle.recency.specs.Recent as recent
use Rattle.recency.proofs.Pages.{by_bool}
use Rattle.policy.specs.Sets.{member}
use Rattle.policy.proofs.Counts.{found_is}
use Rattle.two_q.specs.Lists.{less, moved}

-- a move of a page to the head
pub moved_is : (p : ℕ) (xs : List ℕ) → recent.moved (λ (x : ℕ). x) p xs ≡ moved p xs
moved_is p xs =
    ap (λ (o : Option ℕ). option_map_or (λ (x : ℕ). x ∷ less p xs) o xs) (found_is p xs)
    ∙ by_bool (member p xs) (λ e. rw e) (λ e. rw e)

pub none-moved : (p : ℕ) (xs : List ℕ) → member p xs ≡ false → xs ≡ moved p xs
none-moved p xs e = rw e
