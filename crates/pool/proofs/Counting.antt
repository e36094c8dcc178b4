-- The frames that have a grant out are as many as the pages that have one, and the pages listed for a
-- choice are those that have none.
use Rattle.std.proofs.Common.{◌≡◌, ℕ, zero, suc, ◌+◌, ◌<◌, ◌≤◌, Bool, true, false, cond, eqb, ltb, ◌≢◌, List, [], ◌∷◌, ◌++◌, is_some, Some, None, Option, sym, refl, ap, ◌∙◌, inl, inr, arith}
use Rattle.std.proofs.lemmas.Bool.{cond-true, cond-false, cases_Bool, cases_eq, eq-eqb, ne_eqb, lt-ltb, le-ltb}
use Rattle.policy.specs.Sets.{member}
use Rattle.book.specs.Book.{Book, grants, held_below}
use Rattle.book.specs.declared.grant.Kind.TheVariants.{Reading, Updating}
use Rattle.frames.specs.Calls.{Absent}
use Rattle.frames.specs.Table.{Frame, page_in, at, pins, idle}
use Rattle.pool.specs.Meaning.{pins_at}
use Rattle.pool.specs.Tied.{Once}
use Rattle.pool.proofs.Places.{at_out}

-- how many of the first n frames have a grant out
pub busy : ℕ → (ℕ → Frame) → ℕ
busy zero F = 0
busy (suc n) F = cond (ltb 0 (pins (F n).slot)) 1 0 + busy n F

-- how many of the numbers below n pass a test
abbrev tally : (ℕ → Bool) → ℕ → ℕ
tally t zero = 0
tally t (suc n) = cond (t n) 1 0 + tally t n

held-tally : (n : ℕ) (b : Book) → held_below n b ≡ tally (λ k. ltb 0 (grants b k)) n
held-tally zero b = refl
held-tally (suc n) b = ap (λ (m : ℕ). cond (ltb 0 (grants b n)) 1 0 + m) (held-tally n b)

tally-same : (t s : ℕ → Bool) (n : ℕ) → ((k : ℕ) → k < n → t k ≡ s k) → tally t n ≡ tally s n
tally-same t s zero h = refl
tally-same t s (suc n) h =
    ap (λ (b : Bool). cond b 1 0 + tally t n) (h n (omega arith)) ∙ ap (λ (m : ℕ). cond (s n) 1 0 + m) (tally-same t s n (λ k l. h k (omega arith)))

-- a test that passes one number more
tally-more : (t s : ℕ → Bool) (a n : ℕ) → a < n → s a ≡ false → t a ≡ true → ((k : ℕ) → k ≢ a → t k ≡ s k) → tally t n ≡ 1 + tally s n
tally-more t s a zero l sa ta h = absurd (omega arith)
tally-more t s a (suc n) l sa ta h =
    elim (cases_eq n a) [
      | inl e ↦
          (let here = cond-true {A = ℕ} (t n) 1 0 (ap t e ∙ ta) in
          let gone = cond-false {A = ℕ} (s n) 1 0 (ap s e ∙ sa) in
          let rest = tally-same t s n (λ k m. h k (λ z. apart k a n m z e)) in
          omega (arith, here, gone, rest))
      | inr ne ↦
          (let rest = tally-more t s a n (below a n l ne) sa ta h in
          let here = ap {B = ℕ} (λ (b : Bool). cond b 1 0) (h n ne) in
          omega (arith, here, rest))
    ]
  where
    below : (a n : ℕ) → a < suc n → n ≢ a → a < n
    below a n l ne = omega arith

    apart : (k a n : ℕ) → k < n → k ≡ a → n ≡ a → ⊥
    apart k a n l x y = omega arith

tally-none : (n : ℕ) → tally (λ k. false) n ≡ 0
tally-none zero = refl
tally-none (suc n) = let ih = tally-none n in omega arith

-- a page has a grant out, by its frame
abbrev pinned_at : Option Frame → Bool
pinned_at o = ltb 0 (pins_at Reading o + pins_at Updating o)

once-less : (n : ℕ) (F : ℕ → Frame) → Once (suc n) F → Once n F
once-less n F o a b x y e = o a b (omega arith) (omega arith) e

last-alone : (n : ℕ) (F : ℕ → Frame) → Once (suc n) F → Absent n F (page_in (F n))
last-alone n F o i l e = let z : i ≡ n = o i n (omega arith) (omega arith) e in absurd (omega arith)

frames-tally : (n : ℕ) (F : ℕ → Frame) (size : ℕ) → Once n F → ((i : ℕ) → i < n → page_in (F i) < size) → tally (λ k. pinned_at (at n F k)) size ≡ busy n F
unfolding busy
frames-tally zero F size o low = tally-none size
frames-tally (suc n) F size o low =
    let ih = frames-tally n F size (once-less n F o) (λ i l. low i (omega arith)) in
    let a = page_in (F n) in
    let t : ℕ → Bool = λ k. pinned_at (at (suc n) F k) in
    let s : ℕ → Bool = λ k. pinned_at (at n F k) in
    let gone : s a ≡ false = ap pinned_at (at_out n F a (last-alone n F o)) in
    let here : t a ≡ ltb 0 (pins (F n).slot) = ap pinned_at (cond-true (eqb a a) (Some (F n)) (at n F a) (eq-eqb a a refl)) in
    let other : (k : ℕ) → k ≢ a → t k ≡ s k = λ k ne. ap pinned_at (cond-false (eqb a k) (Some (F n)) (at n F k) (ne_eqb a k (λ e. ne (sym e)))) in
    elim (cases_Bool (ltb 0 (pins (F n).slot))) [
      | inl y ↦ (let c = cond-true {A = ℕ} (ltb 0 (pins (F n).slot)) 1 0 y in
          let m = tally-more t s a size (low n (omega arith)) gone (here ∙ y) other in
          omega (arith, c, m, ih))
      | inr z ↦ (let c = cond-false {A = ℕ} (ltb 0 (pins (F n).slot)) 1 0 z in
          let all : (k : ℕ) → t k ≡ s k = λ k. elim (cases_eq k a) [ inl e ↦ ap t e ∙ here ∙ z ∙ sym (ap s e ∙ gone) | inr ne ↦ other k ne ] in
          let m = tally-same t s size (λ k l. all k) in
          omega (arith, c, m, ih))
    ]

-- the pages with a grant out, in the book of these frames
pub held_is : (n : ℕ) (F : ℕ → Frame) (b : Book) → Once n F → ((i : ℕ) → i < n → page_in (F i) < b.size) → ((k : ℕ) → grants b k ≡ pins_at Reading (at n F k) + pins_at Updating (at n F k)) → held_below b.size b ≡ busy n F
held_is n F b o low g =
    held-tally b.size b
    ∙ tally-same (λ k. ltb 0 (grants b k)) (λ k. pinned_at (at n F k)) b.size (λ k l. ap (ltb 0) (g k))
    ∙ frames-tally n F b.size o low

pub busy-most : (n : ℕ) (F : ℕ → Frame) → busy n F ≤ n
unfolding busy
busy-most zero F = omega arith
busy-most (suc n) F = step (ltb 0 (pins (F n).slot)) (busy-most n F)
  where
    step : (b : Bool) → busy n F ≤ n → cond b 1 0 + busy n F ≤ suc n
    step true h = omega arith
    step false h = omega arith

pub busy-less : (n : ℕ) (F : ℕ → Frame) (i : ℕ) → i < n → pins (F i).slot ≡ 0 → busy n F < n
unfolding busy
busy-less zero F i l e = omega arith
busy-less (suc n) F i l e =
    elim (cases_eq i n) [
      | inl s ↦ (let z : pins (F n).slot ≤ 0 = zero_at (ap (λ (j : ℕ). pins (F j).slot) (sym s) ∙ e) in
          let c = cond-false {A = ℕ} (ltb 0 (pins (F n).slot)) 1 0 (le-ltb 0 (pins (F n).slot) z) in
          let m = busy-most n F in
          omega (arith, c, m))
      | inr ne ↦ step (ltb 0 (pins (F n).slot)) (busy-less n F i (below i n l ne) e)
    ]
  where
    zero_at : {m : ℕ} → m ≡ 0 → m ≤ 0
    zero_at h = omega arith

    below : (i n : ℕ) → i < suc n → i ≢ n → i < n
    below i n l ne = omega arith

    step : (b : Bool) → busy n F < n → cond b 1 0 + busy n F < suc n
    step true h = omega arith
    step false h = omega arith

pub busy-full : (n : ℕ) (F : ℕ → Frame) → ((i : ℕ) → i < n → 0 < pins (F i).slot) → busy n F ≡ n
unfolding busy
busy-full zero F h = refl
busy-full (suc n) F h =
    let c = cond-true {A = ℕ} (ltb 0 (pins (F n).slot)) 1 0 (lt-ltb 0 (pins (F n).slot) (h n (omega arith))) in
    let m = busy-full n F (λ i l. h i (omega arith)) in
    omega (arith, c, m)

-- THE PAGES LISTED
member_append : (q : ℕ) (xs ys : List ℕ) → member q (xs ++ ys) ≡ cond (member q xs) true (member q ys)
member_append q [] ys = refl
member_append q (x ∷ xs) ys = step (eqb x q) (member_append q xs ys)
  where
    step : (b : Bool) → member q (xs ++ ys) ≡ cond (member q xs) true (member q ys) → cond b true (member q (xs ++ ys)) ≡ cond (cond b true (member q xs)) true (member q ys)
    step true h = refl
    step false h = h

-- a page with a frame and no grant out
abbrev pub idle_at : Option Frame → Bool
idle_at o = cond (is_some o) (eqb (pins_at Reading o + pins_at Updating o) 0) false

member-last : (p q : ℕ) (b : Bool) → p ≢ q → member q (cond b [] (p ∷ [])) ≡ false
member-last p q true ne = refl
member-last p q false ne = cond-false (eqb p q) true false (ne_eqb p q ne)

member-here : (p q n : ℕ) → p ≡ q → member q (cond (ltb 0 n) [] (p ∷ [])) ≡ eqb n 0
member-here p q zero e = cond-true (eqb p q) true false (eq-eqb p q e)
member-here p q (suc n) e =
    let y : ltb 0 (suc n) ≡ true = lt-ltb 0 (suc n) (omega arith) in
    let z : eqb (suc n) 0 ≡ false = ne_eqb (suc n) 0 (λ h. over n h) in
    ap (member q) (cond-true (ltb 0 (suc n)) [] (p ∷ []) y) ∙ sym z
  where
    over : (n : ℕ) → suc n ≡ 0 → ⊥
    over n h = omega arith

pub idle-member : (n : ℕ) (F : ℕ → Frame) (q : ℕ) → Once n F → member q (idle n F) ≡ idle_at (at n F q)
idle-member zero F q o = refl
idle-member (suc n) F q o =
    let ih = idle-member n F q (once-less n F o) in
    let p = page_in (F n) in
    let last = cond (ltb 0 (pins (F n).slot)) [] (p ∷ []) in
    elim (cases_eq p q) [
      | inl e ↦
          (let out : at n F q ≡ None = ap (at n F) (sym e) ∙ at_out n F p (last-alone n F o) in
          member_append q (idle n F) last
          ∙ ap (λ (b : Bool). cond b true (member q last)) (ih ∙ ap idle_at out)
          ∙ member-here p q (pins (F n).slot) e
          ∙ sym (ap idle_at (cond-true (eqb p q) (Some (F n)) (at n F q) (eq-eqb p q e))))
      | inr ne ↦
          (member_append q (idle n F) last
          ∙ ap (cond (member q (idle n F)) true) (member-last p q (ltb 0 (pins (F n).slot)) ne)
          ∙ or_false (member q (idle n F))
          ∙ ih
          ∙ sym (ap idle_at (cond-false (eqb p q) (Some (F n)) (at n F q) (ne_eqb p q ne))))
    ]
  where
    or_false : (b : Bool) → cond b true false ≡ b
    or_false true = refl
    or_false false = refl
