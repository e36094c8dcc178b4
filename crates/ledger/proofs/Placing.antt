-- The first place of a page that has a number.
use Rattle.std.proofs.Common.{◌≡◌, ℕ, zero, suc, ◌+◌, ◌<◌, ◌≤◌, Bool, true, false, ◌&&◌, nat_lt, List, Some, None, MatchOption, Option, sym, refl, ap, ◌∙◌, inl, inr, arith}
use Rattle.std.proofs.lemmas.Bool.{cases_eq, cond-true, cond-false, lt-ltb}
use Rattle.ledger.specs.Finding.{first_place, place_in, stands_at}
use Rattle.ledger.specs.declared.finding.Kept.{Kept}

-- of a place that is one of the 16, the test is whether the number stands there
among_16 : (k : ℕ) (stands r : Bool) → k < 16 → (nat_lt k 16 && stands) ≡ r → stands ≡ r
among_16 k stands r l h = sym (ap (λ (x : Bool). x && stands) (lt-ltb k 16 l)) ∙ h

module _ (kept : Kept) (page : List ℕ) (number : ℕ) where
  none_there : (n k : ℕ) → ((j : ℕ) → k ≤ j → j < k + n → stands_at kept page j number ≡ false) → first_place kept page number k n ≡ None
  unfolding first_place
  none_there zero k h = refl
  none_there (suc n) k h =
      cond-false (stands_at kept page k number) (Some k) (first_place kept page number (suc k) n) (h k (omega arith) (omega arith))
      ∙ none_there n (suc k) (λ j a b. h j (omega arith) (omega arith))

  first_there : (n k i : ℕ) → k ≤ i → i < k + n → stands_at kept page i number ≡ true → ((j : ℕ) → k ≤ j → j < i → stands_at kept page j number ≡ false) → first_place kept page number k n ≡ Some i
  unfolding first_place
  first_there zero k i a b e h = absurd (omega arith)
  first_there (suc n) k i a b e h = elim (cases_eq k i) [
    | inl same ↦ (cond-true (stands_at kept page k number) (Some k) (first_place kept page number (suc k) n) (ap (λ (j : ℕ). stands_at kept page j number) same ∙ e) ∙ ap (λ (j : ℕ). Some j) same)
    | inr other ↦
        (cond-false (stands_at kept page k number) (Some k) (first_place kept page number (suc k) n) (h k (omega arith) (omega arith))
        ∙ first_there n (suc k) i (omega arith) (omega arith) e (λ j c d. h j (omega arith) d))
  ]

  -- what a look at each place in turn finds
  pub place_found : (r : Option ℕ) → MatchOption r ((k : ℕ) → 0 ≤ k → k < 16 → (nat_lt k 16 && stands_at kept page k number) ≡ false) (λ i. (0 ≤ i) × (i < 16) × ((nat_lt i 16 && stands_at kept page i number) ≡ true) × ((k : ℕ) → 0 ≤ k → k < i → (nat_lt k 16 && stands_at kept page k number) ≡ false)) → r ≡ place_in kept page number
  place_found None h = sym (none_there 16 0 (λ j a b. let l : j < 16 = omega arith in among_16 j _ false l (h j a l)))
  place_found (Some i) h =
      let l : i < 16 = h.1 in
      sym (first_there 16 0 i h.0 (omega arith) (among_16 i _ true l h.2) (λ j a b. among_16 j _ false (omega arith) (h.3 j a b)))
