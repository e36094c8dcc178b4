-- Whether a grant is out for a page.
use Rattle.std.proofs.Common.{◌≡◌, ℕ, ◌<◌, ◌≤◌, Bool, eqb, ltb, Some, None, ap, inl, inr, arith}
use Rattle.std.proofs.lemmas.Bool.{cases_eq, eq-eqb, ne_eqb, lt-ltb, le-ltb, and_left, and_right, and_from}
use Rattle.page.specs.declared.refusal.Refusal.TheVariants.{NotGranted}
use Rattle.book.specs.Book.{Book, granted, is_granted, ◌otherwise◌}
use Rattle.book.specs.declared.grant.Kind.{Kind}

pub grant-yes : (b : Book) (kind : Kind) (mark page : ℕ) → mark ≡ b.mark → 0 < granted b kind page → is_granted b kind mark page ≡ None
grant-yes b kind mark page e l = ap (λ (t : Bool). t otherwise NotGranted) (and_from (eqb mark b.mark) (ltb 0 (granted b kind page)) (eq-eqb mark b.mark e) (lt-ltb 0 (granted b kind page) l))

pub grant_no : (b : Book) (kind : Kind) (mark page : ℕ) → (mark ≡ b.mark → granted b kind page ≡ 0) → is_granted b kind mark page ≡ Some NotGranted
grant_no b kind mark page h =
    elim (cases_eq mark b.mark) [
      | inl e ↦ (let z : granted b kind page ≤ 0 = none (granted b kind page) (h e) in
          ap (λ (t : Bool). t otherwise NotGranted) (and_right (eqb mark b.mark) (ltb 0 (granted b kind page)) (le-ltb 0 (granted b kind page) z)))
      | inr ne ↦ ap (λ (t : Bool). t otherwise NotGranted) (and_left (eqb mark b.mark) (ltb 0 (granted b kind page)) (ne_eqb mark b.mark ne))
    ]
  where
    none : (n : ℕ) → n ≡ 0 → n ≤ 0
    none n e = omega arith
