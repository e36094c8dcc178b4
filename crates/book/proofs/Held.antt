-- How the number of pages held goes with the grants out.
use Rattle.std.proofs.Common.{◌≡◌, ℕ, zero, suc, ◌+◌, ◌<◌, ◌≤◌, Bool, true, false, cond, eqb, ltb, sym, refl, ◌∙◌, arith, ltb-true, lt-ltb, eqb-true}
use borrow.Author.Tests.{clash, eqb-false}
use Rattle.device.specs.Row.{Row}
use Rattle.book.specs.Book.{Book, opened, grants, held_below}

step_le : (m n : ℕ) → (0 < m → 0 < n) → cond (ltb 0 m) 1 0 ≤ cond (ltb 0 n) 1 0
step_le m n f = go (ltb 0 m) (ltb 0 n) refl refl
  where
    go : (s t : Bool) → ltb 0 m ≡ s → ltb 0 n ≡ t → cond s 1 0 ≤ cond t 1 0
    go true true e h = omega arith
    go true false e h = absurd (clash (sym h ∙ lt-ltb 0 n (f (ltb-true 0 m e))))
    go false true e h = omega arith
    go false false e h = omega arith

step-one : (m : ℕ) → cond (ltb 0 m) 1 0 ≤ 1
step-one m = go (ltb 0 m)
  where
    go : (t : Bool) → cond t 1 0 ≤ 1
    go true = omega arith
    go false = omega arith

-- no more pages are held where each page held was held before
pub held_le : (b d : Book) (n : ℕ) → ((q : ℕ) → q < n → 0 < grants d q → 0 < grants b q) → held_below n d ≤ held_below n b
held_le b d zero f = omega arith
held_le b d (suc n) f =
    let h : held_below n d ≤ held_below n b = held_le b d n (λ q l. f q (omega arith)) in
    let s = step_le (grants d n) (grants b n) (f n (omega arith)) in
    omega arith

-- and one page more at most where the grants changed on one page
pub held_more : (b d : Book) (page n : ℕ) → ((q : ℕ) → (q ≡ page → ⊥) → grants d q ≡ grants b q) → held_below n d ≤ held_below n b + 1
held_more b d page zero f = omega arith
held_more b d page (suc n) f = go (eqb n page) refl (held_more b d page n f)
  where
    go : (t : Bool) → eqb n page ≡ t → held_below n d ≤ held_below n b + 1 → held_below (suc n) d ≤ held_below (suc n) b + 1
    go true e _ =
        let k = eqb-true n page e in
        let h : held_below n d ≤ held_below n b = held_le b d n (λ q l p. let same = f q (λ z. omega arith) in omega arith) in
        let s = step-one (grants d n) in
        omega arith
    go false e h =
        let same = f n (eqb-false n page e) in
        let s = step_le (grants d n) (grants b n) (λ p. omega arith) in
        omega arith

pub held_none : (n size bound mark : ℕ) (row : Row) → held_below n (opened size bound mark row) ≡ 0
held_none zero size bound mark row = refl
held_none (suc n) size bound mark row = let h = held_none n size bound mark row in omega arith
