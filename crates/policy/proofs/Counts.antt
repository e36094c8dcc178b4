-- How often a page stands in a list.
use Rattle.std.proofs.Common.{◌≡◌, ℕ, zero, suc, ◌+◌, ◌≤◌, true, false, cond, eqb, List, [], ◌∷◌, map, length, take, is_some, Some, None, sym, refl, ap, ◌∙◌, arith, eqb-true}
use Rattle.std.proofs.lemmas.List.{map-id}
use Rattle.std.proofs.lemmas.Bool.{false≢true}
use Rattle.std.proofs.lemmas.Bool.Decides.{nat_tests}
use Rattle.recency.specs.Recent.{found, less}
use Rattle.recency.proofs.Pages as pages
use Rattle.recency.proofs.Pages.{by_bool, has_record, nowhere}
use Rattle.policy.specs.Sets.{member, distinct, count}
use Rattle.policy.specs.Once.{not_counted, distinct_append}

pub count_none : (p : ℕ) (xs : List ℕ) → member p xs ≡ false → count p xs ≡ 0
count_none p [] h = refl
count_none p (x ∷ xs) h = let i = count_none p xs in grind (arith, nat_tests)

pub member-counted : (p : ℕ) (xs : List ℕ) → member p xs ≡ true → 1 ≤ count p xs
member-counted p [] h = absurd (false≢true h)
member-counted p (x ∷ xs) h = let i = member-counted p xs in grind (arith, nat_tests)

pub count-take : (p k : ℕ) (xs : List ℕ) → count p (take k xs) ≤ count p xs
count-take p zero xs = omega arith
count-take p (suc k) [] = omega arith
count-take p (suc k) (x ∷ xs) = let i = count-take p k xs in omega arith

pub once-distinct : (xs : List ℕ) → ((p : ℕ) → count p xs ≤ 1) → distinct xs ≡ true
once-distinct xs h = distinct_append [] xs (λ p. omega (arith, h p))

-- with a page taken out
pub count_held : (p r : ℕ) (xs : List ℕ) → member p xs ≡ true → cond (eqb p r) 1 0 + count r (less (λ (x : ℕ). x) p xs) ≡ count r xs
count_held p r [] h = absurd (false≢true h)
count_held p r (x ∷ xs) h = let i = count_held p r xs in grind (arith, nat_tests)

pub count_less_le : (p r : ℕ) (xs : List ℕ) → count r (less (λ (x : ℕ). x) p xs) ≤ count r xs
count_less_le p r [] = omega arith
count_less_le p r (x ∷ xs) = let i = count_less_le p r xs in grind (arith, nat_tests)

-- a page that stands at most once is out once it is taken out
pub out_once : (p r : ℕ) (xs : List ℕ) → count r xs ≤ 1 → member r (less (λ (x : ℕ). x) p xs) ≡ cond (eqb p r) false (member r xs)
out_once p r [] h = grind (arith, nat_tests)
out_once p r (x ∷ xs) h = let i = out_once p r xs in let z = not_counted r xs in grind (arith, nat_tests)

-- the same of records of which no page has two
module _ {X : Type 0} (key : X → ℕ) where
  pub distinct-less : (p : ℕ) (xs : List X) → distinct (map key xs) ≡ true → distinct (map key (less key p xs)) ≡ true
  distinct-less p [] h = refl
  distinct-less p (x ∷ xs) h = let i = distinct-less p xs in let j = pages.member-less key (key x) p xs in grind (arith, nat_tests)

  pub out-distinct : (p r : ℕ) (xs : List X) → distinct (map key xs) ≡ true → member r (map key (less key p xs)) ≡ cond (eqb p r) false (member r (map key xs))
  out-distinct p r [] h = grind (arith, nat_tests)
  out-distinct p r (x ∷ xs) h = let i = out-distinct p r xs in grind (arith, nat_tests)

-- a page number is its own key
pub found_is : (p : ℕ) (xs : List ℕ) → found (λ (x : ℕ). x) p xs ≡ cond (member p xs) (Some p) None
found_is p [] = refl
found_is p (x ∷ xs) = by_bool (eqb x p) (λ e. rw e (ap Some (eqb-true x p e))) (λ e. rw e (found_is p xs))

pub has_page : (p : ℕ) (xs : List ℕ) → is_some (found (λ (x : ℕ). x) p xs) ≡ member p xs
has_page p xs = has_record (λ (x : ℕ). x) p xs ∙ ap (member p) (map-id xs)

pub none-less : (p : ℕ) (xs : List ℕ) → member p xs ≡ false → xs ≡ less (λ (x : ℕ). x) p xs
none-less p xs h = sym (nowhere (λ (x : ℕ). x) p xs (ap (member p) (map-id xs) ∙ h)).same

pub length-less : (p : ℕ) (xs : List ℕ) → member p xs ≡ true → length (less (λ (x : ℕ). x) p xs) + 1 ≡ length xs
length-less p xs h = pages.length-less (λ (x : ℕ). x) p xs (ap (member p) (map-id xs) ∙ h)

pub length_less_le : (p : ℕ) (xs : List ℕ) → length (less (λ (x : ℕ). x) p xs) ≤ length xs
length_less_le p xs = pages.length_less_le (λ (x : ℕ). x) p xs

pub member-less : (r p : ℕ) (xs : List ℕ) → member r xs ≡ false → member r (less (λ (x : ℕ). x) p xs) ≡ false
member-less r p xs h = ap (member r) (sym (map-id (less (λ (x : ℕ). x) p xs))) ∙ pages.member-less (λ (x : ℕ). x) r p xs (ap (member r) (map-id xs) ∙ h)
