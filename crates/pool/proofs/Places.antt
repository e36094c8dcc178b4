-- The frame of a page, and what a change of one frame makes of it.
use Rattle.std.proofs.Common.{◌≡◌, ℕ, zero, suc, ◌<◌, cond, eqb, ◌≢◌, ◌⊎◌, Some, None, Option, sym, refl, ap, ◌∙◌, inl, inr, arith}
use Rattle.std.proofs.lemmas.Bool.{eq-eqb, ne_eqb, cond-true, cond-false, cases_eq}
use Rattle.frames.specs.Calls.{Absent}
use Rattle.frames.specs.Table.{Frame, page_in, at, with}
use Rattle.pool.specs.Tied.{Once}

pub some-none : {X : Type 0} (x : X) → Some x ≡ None → ⊥
some-none x e = let z : ◌≡◌ {A = ℕ} 0 1 = cc in omega arith

-- a page stands in the frame at some place, or in none
pub at_out : (n : ℕ) (F : ℕ → Frame) (q : ℕ) → Absent n F q → at n F q ≡ None
at_out zero F q h = refl
at_out (suc n) F q h =
    cond-false (eqb (page_in (F n)) q) (Some (F n)) (at n F q) (ne_eqb (page_in (F n)) q (λ e. h n (omega arith) e))
    ∙ at_out n F q (λ i l e. h i (omega arith) e)

pub at_in : (n : ℕ) (F : ℕ → Frame) (i : ℕ) → Once n F → i < n → at n F (page_in (F i)) ≡ Some (F i)
at_in zero F i o l = absurd (omega arith)
at_in (suc n) F i o l =
    elim (cases_eq n i) [
      | inl e ↦ cond-true (eqb (page_in (F n)) (page_in (F i))) (Some (F n)) (at n F (page_in (F i))) (eq-eqb (page_in (F n)) (page_in (F i)) (ap (λ (j : ℕ). page_in (F j)) e)) ∙ ap (λ (j : ℕ). Some (F j)) e
      | inr ne ↦
          (let low : i < n = below i n l ne in
          cond-false (eqb (page_in (F n)) (page_in (F i))) (Some (F n)) (at n F (page_in (F i))) (ne_eqb (page_in (F n)) (page_in (F i)) (λ e. ne (o n i (omega arith) l e)))
          ∙ at_in n F i (λ a b x y e. o a b (omega arith) (omega arith) e) low)
    ]
  where
    below : (i n : ℕ) → i < suc n → n ≢ i → i < n
    below i n l ne = omega arith

pub at_here : (n : ℕ) (F : ℕ → Frame) (i q : ℕ) → Once n F → i < n → page_in (F i) ≡ q → at n F q ≡ Some (F i)
at_here n F i q o l e = ap (at n F) (sym e) ∙ at_in n F i o l

pub record Seat (n : ℕ) (F : ℕ → Frame) (q : ℕ) (f : Frame) : Type 0 where
  pub place : ℕ
  pub low : place < n
  pub is : F place ≡ f
  pub page : page_in f ≡ q

pub at_where : (n : ℕ) (F : ℕ → Frame) (q : ℕ) (f : Frame) → at n F q ≡ Some f → Seat n F q f
at_where zero F q f h = absurd (some-none f (sym h))
at_where (suc n) F q f h =
    elim (cases_eq (page_in (F n)) q) [
      | inl e ↦
          (let same : F n ≡ f = some_same (sym (cond-true (eqb (page_in (F n)) q) (Some (F n)) (at n F q) (eq-eqb (page_in (F n)) q e)) ∙ h) in
          record { place = n; low = omega arith; is = same; page = ap page_in (sym same) ∙ e })
      | inr ne ↦
          (let w = at_where n F q f (sym (cond-false (eqb (page_in (F n)) q) (Some (F n)) (at n F q) (ne_eqb (page_in (F n)) q ne)) ∙ h) in
          record { place = w.place; low = more w.place n w.low; is = w.is; page = w.page })
    ]
  where
    some_same : {x y : Frame} → Some x ≡ Some y → x ≡ y
    some_same e = cc

    more : (i n : ℕ) → i < n → i < suc n
    more i n l = omega arith

-- a page that is in no frame is absent
pub at_none : (n : ℕ) (F : ℕ → Frame) (q : ℕ) → Once n F → at n F q ≡ None → Absent n F q
at_none n F q o h i l e = some-none (F i) (sym (at_here n F i q o l e) ∙ h)

-- frames past the first n are of no account
pub at_below : (n : ℕ) (F G : ℕ → Frame) (q : ℕ) → ((j : ℕ) → j < n → F j ≡ G j) → at n F q ≡ at n G q
at_below zero F G q h = refl
at_below (suc n) F G q h =
    ap (λ (f : Frame). cond (eqb (page_in f) q) (Some f) (at n F q)) (h n (omega arith))
    ∙ ap (cond (eqb (page_in (G n)) q) (Some (G n))) (at_below n F G q (λ j l. h j (omega arith)))

pub with-same : (F : ℕ → Frame) (i : ℕ) (f : Frame) → with F i f i ≡ f
with-same F i f = cond-true (eqb i i) f (F i) (eq-eqb i i refl)

pub with-other : (F : ℕ → Frame) (i : ℕ) (f : Frame) (j : ℕ) → j ≢ i → with F i f j ≡ F j
with-other F i f j ne = cond-false (eqb j i) f (F j) (ne_eqb j i ne)

pub all_at : (n : ℕ) (F G : ℕ → Frame) → ((j : ℕ) → F j ≡ G j) → (q : ℕ) → at n F q ≡ at n G q
all_at n F G h q = at_below n F G q (λ j l. h j)

-- The frame at i becomes f, and no other has the page of f.
module _ (n : ℕ) (F : ℕ → Frame) (i : ℕ) (f : Frame) (low : i < n) (once : Once n F) (alone : (j : ℕ) → j < n → page_in (F j) ≡ page_in f → j ≡ i) where
  page-with : (j q : ℕ) → page_in (with F i f j) ≡ q → ((j ≡ i) × (page_in f ≡ q)) ⊎ ((j ≢ i) × (page_in (F j) ≡ q))
  page-with j q e =
      elim (cases_eq j i) [
        | inl s ↦ inl (s, sym (ap page_in (ap (with F i f) s ∙ with-same F i f)) ∙ e)
        | inr ne ↦ inr (ne, sym (ap page_in (with-other F i f j ne)) ∙ e)
      ]

  pub once-with : Once n (with F i f)
  once-with a b la lb e =
      elim (page-with a (page_in (with F i f b)) e) [
        | inl x ↦ elim (page-with b (page_in f) (sym x.1)) [ inl y ↦ x.0 ∙ sym y.0 | inr y ↦ absurd (y.0 (alone b lb y.1)) ]
        | inr x ↦ elim (page-with b (page_in (F a)) (sym x.1)) [ inl y ↦ absurd (x.0 (alone a la (sym y.1))) | inr y ↦ once a b la lb (sym y.1) ]
      ]

  pub at_come : (q : ℕ) → page_in f ≡ q → at n (with F i f) q ≡ Some f
  at_come q e = at_here n (with F i f) i q once-with low (ap page_in (with-same F i f) ∙ e) ∙ ap Some (with-same F i f)

  pub at_gone : (q : ℕ) → page_in f ≢ q → page_in (F i) ≡ q → at n (with F i f) q ≡ None
  at_gone q ne e = at_out n (with F i f) q (λ j l h. elim (page-with j q h) [ inl x ↦ ne x.1 | inr y ↦ y.0 (once j i l low (y.1 ∙ sym e)) ])

  pub at_stay : (q : ℕ) → page_in f ≢ q → page_in (F i) ≢ q → at n (with F i f) q ≡ at n F q
  at_stay q ne away-from = go (at n F q) refl
    where
      go : (o : Option Frame) → at n F q ≡ o → at n (with F i f) q ≡ o
      go None h = at_out n (with F i f) q (λ j l e. elim (page-with j q e) [ inl x ↦ ne x.1 | inr y ↦ at_none n F q once h j l y.1 ])
      go (Some g) h =
          let w = at_where n F q g h in
          let j = w.place in
          let there : page_in (F j) ≡ q = ap page_in w.is ∙ w.page in
          let away : j ≢ i = λ s. away-from (ap (λ (k : ℕ). page_in (F k)) (sym s) ∙ there) in
          let same = with-other F i f j away in
          at_here n (with F i f) j q once-with w.low (ap page_in same ∙ there) ∙ ap Some (same ∙ w.is)

-- A frame more, whose page is in none of the others.
module _ (n : ℕ) (F : ℕ → Frame) (f : Frame) (once : Once n F) (absent : Absent n F (page_in f)) where
  at_first : (q : ℕ) → at n (with F n f) q ≡ at n F q
  at_first q = at_below n (with F n f) F q (λ j l. with-other F n f j (λ e. under j n l e))
    where
      under : (j n : ℕ) → j < n → j ≡ n → ⊥
      under j n l e = omega arith

  pub at_more : (q : ℕ) → at (suc n) (with F n f) q ≡ cond (eqb (page_in f) q) (Some f) (at n F q)
  at_more q =
      ap (λ (g : Frame). cond (eqb (page_in g) q) (Some g) (at n (with F n f) q)) (with-same F n f)
      ∙ ap (cond (eqb (page_in f) q) (Some f)) (at_first q)

  pub once_more : Once (suc n) (with F n f)
  once_more a b la lb e =
      elim (cases_eq a n) [
        | inl x ↦ elim (cases_eq b n) [
          | inl y ↦ x ∙ sym y
          | inr y ↦ absurd (absent b (less b n lb y) (sym (ap page_in (with-other F n f b y)) ∙ sym e ∙ ap (λ (k : ℕ). page_in (with F n f k)) x ∙ ap page_in (with-same F n f)))
        ]
        | inr x ↦ elim (cases_eq b n) [
          | inl y ↦ absurd (absent a (less a n la x) (sym (ap page_in (with-other F n f a x)) ∙ e ∙ ap (λ (k : ℕ). page_in (with F n f k)) y ∙ ap page_in (with-same F n f)))
          | inr y ↦ once a b (less a n la x) (less b n lb y) (sym (ap page_in (with-other F n f a x)) ∙ e ∙ ap page_in (with-other F n f b y))
        ]
      ]
    where
      less : (a n : ℕ) → a < suc n → a ≢ n → a < n
      less a n l ne = omega arith
