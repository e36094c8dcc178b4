use Rattle.std.proofs.Common.{◌≡◌, ℕ, zero, suc, ◌+◌, ◌<◌, Bool, true, false, cond, eqb, List, [], ◌∷◌, length, get_or, drop, replicate, sym, refl, ap, ◌∙◌, arith, lit<, length-drop, eqb-true}
use Rattle.std.specs.Bool.{MatchBool}
use Rattle.std.specs.List.{AllWithin, HoldsAt}
use Rattle.std.specs.Int.Digits.{AllBelowBase}
use Rattle.std.proofs.lemmas.List.{drop_more}
use Rattle.records.specs.Little.{blank}

-- Bytes that are all zero are so many zeros.
pub zeros : (bs : List ℕ) → blank bs ≡ true → bs ≡ replicate (length bs) 0
zeros [] e = refl
zeros (b ∷ bs) e = first (eqb b 0) refl e (λ k. zeros bs k)
  where
    first : (t : Bool) → eqb b 0 ≡ t → cond t (blank bs) false ≡ true → (blank bs ≡ true → bs ≡ replicate (length bs) 0) → b ∷ bs ≡ replicate (length (b ∷ bs)) 0
    first true h k rest = λ i. eqb-true b 0 h i ∷ rest k i
    first false h k rest = absurd (let z : ◌≡◌ {A = ℕ} 0 1 = cc in omega arith)

pub blank-replicate : (n : ℕ) → blank (replicate n 0) ≡ true
blank-replicate zero = refl
blank-replicate (suc n) = blank-replicate n

pub blank-drop : (i n : ℕ) → blank (drop i (replicate n 0)) ≡ true
blank-drop zero n = blank-replicate n
blank-drop (suc i) zero = refl
blank-drop (suc i) (suc n) = blank-drop i n

pub zero_at : (n i : ℕ) → ◌≡◌ {A = ℕ} (get_or (replicate n 0) i 0) 0
zero_at zero i = refl
zero_at (suc n) zero = refl
zero_at (suc n) (suc i) = zero_at n i

pub under-zeros : (n : ℕ) → AllBelowBase 256 (replicate n 0)
under-zeros zero = tt
under-zeros (suc n) = (lit< tt, under-zeros n)

-- A status byte and the zeros after it end the bytes.
pub status_zeros : (bs : List ℕ) (at k s : ℕ) → length bs ≡ at + 1 + k → get_or bs at 0 ≡ s → blank (drop (at + 1) bs) ≡ true → s ∷ replicate k 0 ≡ drop at bs
status_zeros bs at k s l e z =
    let n : length (drop (at + 1) bs) ≡ k = simp length-drop (omega arith) in
    ap (λ b. b ∷ replicate k 0) (sym e)
    ∙ ap (λ m. get_or bs at 0 ∷ replicate m 0) (sym n)
    ∙ ap (λ xs. get_or bs at 0 ∷ xs) (sym (zeros (drop (at + 1) bs) z))
    ∙ sym (drop_more bs at 0 (omega arith))

-- What is told of every byte, or of one, is what a look at each in turn says.
none-other : (b : ℕ) (t : Bool) → eqb b 0 ≡ t → (b ≡ 0 → ⊥) → t ≡ false
none-other b true e h = absurd (h (eqb-true b 0 e))
none-other b false e h = refl

all_blank : (bs : List ℕ) → ((k d : ℕ) → k < length bs → get_or bs k d ≡ 0) → blank bs ≡ true
all_blank [] h = refl
all_blank (b ∷ bs) h = let z : b ≡ 0 = h 0 0 (omega arith) in rw z (all_blank bs (λ k d l. h (suc k) d (omega arith)))

some_other : (bs : List ℕ) (k : ℕ) → k < length bs → (get_or bs k 0 ≡ 0 → ⊥) → blank bs ≡ false
some_other [] k l h = absurd (omega arith)
some_other (b ∷ bs) zero l h = ap (λ t. cond t (blank bs) false) (none-other b (eqb b 0) refl h)
some_other (b ∷ bs) (suc k) l h = last (eqb b 0) (some_other bs k (omega arith) h)
  where
    last : (t : Bool) → blank bs ≡ false → cond t (blank bs) false ≡ false
    last true e = e
    last false e = refl

pub blank_answer : (bs : List ℕ) (r : Bool) → MatchBool r (AllWithin (λ b. b ≡ 0) bs 0 (length bs)) ((k : ℕ) × (k < length bs) × HoldsAt (λ b. b ≡ 0 → ⊥) bs k) → r ≡ blank bs
blank_answer bs true h = sym (all_blank bs (λ k d l. h k d (omega arith) l))
blank_answer bs false h = sym (some_other bs h.0 h.1 (h.2 0))
