-- What the questions of a call come to: yes to all, or the first no.
use Rattle.std.proofs.Common.{◌≡◌, ℕ, ◌<◌, ◌≤◌, Bool, true, false, ◌&&◌, ◌||◌, eqb, ltb, ◌⊎◌, List, [], ◌∷◌, Some, None, Option, sym, refl, ap, subst, inl, inr, arith, ltb-false, ltb-true, eqb-true}
use Rattle.std.proofs.lemmas.Bool.{and_parts, or_cases}
use Rattle.page.specs.Numbers.{number_of}
use Rattle.page.specs.declared.refusal.Refusal.{Refusal}
use Rattle.page.specs.declared.refusal.Refusal.TheVariants.{NoSuchPage, ClockFull, PageFull, NoFrame}
use Rattle.device.specs.Row.{Page, sound, worn, lost}
use Rattle.book.specs.declared.grant.Kind.{Kind}
use Rattle.book.specs.declared.grant.Kind.TheVariants.{Reading, Updating}
use Rattle.book.specs.declared.grant.Ticket.{Ticket}
use Rattle.book.specs.Book.{Book, by_kind, granted, grants, held, ◌otherwise◌, is_not_lost, is_not_worn, is_granted, first_no, refusal, accepted, decided, next}
use Rattle.book.specs.Call.{Call}
use Rattle.book.specs.Call.Call.{Fix, Unfix}
use Rattle.book.specs.GrantLaws.{Fixed, Unfixed}

abbrev pub changed : Book → Call → Book
changed b call = (accepted b call).1

pub accepted-next : (b : Book) (call : Call) → refusal b call ≡ None → next b call ≡ changed b call
accepted-next b call e = ap (λ o. (decided b o (accepted b call)).1) e

-- what a call makes of the book: nothing, if refused
pub next_or : (b : Book) (call : Call) → (next b call ≡ b) ⊎ ((refusal b call ≡ None) × (next b call ≡ changed b call))
next_or b call = go (refusal b call) refl
  where
    go : (o : Option Refusal) → refusal b call ≡ o → (next b call ≡ b) ⊎ ((refusal b call ≡ None) × (next b call ≡ changed b call))
    go None e = inr (e, accepted-next b call e)
    go (Some r) e = inl (ap (λ o. (decided b o (accepted b call)).1) e)

-- the same as a rule: what holds of the book before and of the changed one, if accepted, holds of the next
pub by_next : (P : Book → Type 0) (b : Book) (call : Call) → P b → (refusal b call ≡ None → P (changed b call)) → P (next b call)
by_next P b call h f = elim (next_or b call) [ inl e ↦ subst P (sym e) h | inr e ↦ subst P (sym e.1) (f e.0) ]

-- no first no: each is a yes
pub first-yes : (o : Option Refusal) (qs : List (Option Refusal)) → first_no (o ∷ qs) ≡ None → (o ≡ None) × (first_no qs ≡ None)
first-yes None qs e = (refl, e)
first-yes (Some r) qs e = absurd (let z : ◌≡◌ {A = ℕ} 0 1 = cc in omega arith)

pub yes : (t : Bool) (r : Refusal) → (t otherwise r) ≡ None → t ≡ true
yes true r e = refl
yes false r e = absurd (let z : ◌≡◌ {A = ℕ} 0 1 = cc in omega arith)

-- a first no: the next question's, or one further on
first_no_lem : (o : Option Refusal) (qs : List (Option Refusal)) (r : Refusal) → first_no (o ∷ qs) ≡ Some r → (o ≡ Some r) ⊎ (first_no qs ≡ Some r)
first_no_lem None qs r e = inr e
first_no_lem (Some s) qs r e = inl e

no : (t : Bool) (s r : Refusal) → (t otherwise s) ≡ Some r → (t ≡ false) × (number_of s ≡ number_of r)
no true s r e = absurd (let z : ◌≡◌ {A = ℕ} 0 1 = cc in omega arith)
no false s r e = (refl, let same : s ≡ r = cc in ap number_of same)

number_in : ℕ → Option Refusal → ℕ
number_in n None = n
number_in n (Some s) = number_of s

lost_no : (p : Option Page) (r : Refusal) → is_not_lost p ≡ Some r → number_of r ≡ 3
unfolding number_in
lost_no None r e = absurd (let z : ◌≡◌ {A = ℕ} 0 1 = cc in omega arith)
lost_no (Some (sound bs)) r e = absurd (let z : ◌≡◌ {A = ℕ} 0 1 = cc in omega arith)
lost_no (Some (worn o bs)) r e = absurd (let z : ◌≡◌ {A = ℕ} 0 1 = cc in omega arith)
lost_no (Some (lost o)) r e = sym (ap (number_in 3) e)

worn_no : (kind : Kind) (p : Option Page) (r : Refusal) → by_kind kind None (is_not_worn p) ≡ Some r → number_of r ≡ 4
unfolding number_in
worn_no Reading p r e = absurd (let z : ◌≡◌ {A = ℕ} 0 1 = cc in omega arith)
worn_no Updating None r e = absurd (let z : ◌≡◌ {A = ℕ} 0 1 = cc in omega arith)
worn_no Updating (Some (sound bs)) r e = absurd (let z : ◌≡◌ {A = ℕ} 0 1 = cc in omega arith)
worn_no Updating (Some (worn o bs)) r e = sym (ap (number_in 4) e)
worn_no Updating (Some (lost o)) r e = absurd (let z : ◌≡◌ {A = ℕ} 0 1 = cc in omega arith)

-- what the questions of an accepted fix and of an accepted unfix found
frame_or : (a c n : ℕ) → (ltb 0 a || ltb c n) ≡ true → (0 < a) ⊎ (c < n)
frame_or a c n e = elim (or_cases (ltb 0 a) (ltb c n) e) [ inl h ↦ inl (ltb-true 0 a h) | inr h ↦ inr (ltb-true c n h) ]

pub fixed : (b : Book) (kind : Kind) (page : ℕ) → refusal b (Fix kind page) ≡ None → Fixed 255 b kind page
fixed b kind page e =
    let q2 = first-yes (ltb page b.size otherwise NoSuchPage) _ e in
    let q3 = first-yes (is_not_lost (b.pages page)) _ q2.1 in
    let q4 = first-yes (by_kind kind None (is_not_worn (b.pages page))) _ q3.1 in
    let q5 = first-yes (ltb b.clock 4294967295 otherwise ClockFull) _ q4.1 in
    let q6 = first-yes (ltb (grants b page) 255 otherwise PageFull) _ q5.1 in
    let q7 = first-yes ((ltb 0 (grants b page) || ltb (held b) b.bound) otherwise NoFrame) _ q6.1 in
    record {
      there = ltb-true _ _ (yes _ _ q2.0);
      not_lost = q3.0;
      not_worn = q4.0;
      time = ltb-true _ _ (yes _ _ q5.0);
      few = ltb-true _ _ (yes _ _ q6.0);
      frame = frame_or (grants b page) (held b) b.bound (yes _ _ q7.0);
    }

pub granted-yes : (b : Book) (kind : Kind) (mark page : ℕ) → is_granted b kind mark page ≡ None → (mark ≡ b.mark) × (0 < granted b kind page)
granted-yes b kind mark page e = let p = and_parts _ _ (yes (eqb mark b.mark && ltb 0 (granted b kind page)) _ e) in (eqb-true _ _ p.0, ltb-true _ _ p.1)

pub unfixed : (b : Book) (g : Ticket) → refusal b (Unfix g) ≡ None → Unfixed b g
unfixed b g e = let y = granted-yes b g.kind g.mark g.page (first-yes (is_granted b g.kind g.mark g.page) _ e).0 in record { mark = y.0; out = y.1 }

-- a fix is refused for the clock or for the page's grants only where they are at their limit
module _ (b : Book) (kind : Kind) (page : ℕ) where
  abbrev from6 : List (Option Refusal)
  from6 = ltb (grants b page) 255 otherwise PageFull ∷ (ltb 0 (grants b page) || ltb (held b) b.bound) otherwise NoFrame ∷ []

  from5 : (r : Refusal) → refusal b (Fix kind page) ≡ Some r → 4 < number_of r → first_no (ltb b.clock 4294967295 otherwise ClockFull ∷ from6) ≡ Some r
  from5 r e l =
      elim (first_no_lem (ltb page b.size otherwise NoSuchPage) _ r e) [
        | inl h ↦ absurd (let z = (no _ _ _ h).1 in omega arith)
        | inr h ↦ elim (first_no_lem (is_not_lost (b.pages page)) _ r h) [
          | inl h ↦ absurd (let z = lost_no (b.pages page) r h in omega arith)
          | inr h ↦ elim (first_no_lem (by_kind kind None (is_not_worn (b.pages page))) _ r h) [
            | inl h ↦ absurd (let z = worn_no kind (b.pages page) r h in omega arith)
            | inr h ↦ h
          ]
        ]
      ]

  pub clock-full : refusal b (Fix kind page) ≡ Some ClockFull → 4294967295 ≤ b.clock
  clock-full e =
      elim (first_no_lem (ltb b.clock 4294967295 otherwise ClockFull) from6 ClockFull (from5 ClockFull e (omega arith))) [
        | inl h ↦ ltb-false _ _ (no _ _ _ h).0
        | inr h ↦ absurd (later h)
      ]
    where
      later : first_no from6 ≡ Some ClockFull → ⊥
      later h =
          elim (first_no_lem (ltb (grants b page) 255 otherwise PageFull) _ ClockFull h) [
            | inl h ↦ let z : ◌≡◌ {A = ℕ} 6 5 = (no _ _ _ h).1 in omega arith
            | inr h ↦ elim (first_no_lem ((ltb 0 (grants b page) || ltb (held b) b.bound) otherwise NoFrame) [] ClockFull h) [
              | inl h ↦ let z : ◌≡◌ {A = ℕ} 7 5 = (no _ _ _ h).1 in omega arith
              | inr h ↦ let z : ◌≡◌ {A = ℕ} 0 1 = cc in omega arith
            ]
          ]

  pub page-full : refusal b (Fix kind page) ≡ Some PageFull → 255 ≤ grants b page
  page-full e =
      elim (first_no_lem (ltb b.clock 4294967295 otherwise ClockFull) from6 PageFull (from5 PageFull e (omega arith))) [
        | inl h ↦ absurd (let z : ◌≡◌ {A = ℕ} 5 6 = (no _ _ _ h).1 in omega arith)
        | inr h ↦ elim (first_no_lem (ltb (grants b page) 255 otherwise PageFull) _ PageFull h) [
          | inl h ↦ ltb-false _ _ (no _ _ _ h).0
          | inr h ↦ elim (first_no_lem ((ltb 0 (grants b page) || ltb (held b) b.bound) otherwise NoFrame) [] PageFull h) [
            | inl h ↦ absurd (let z : ◌≡◌ {A = ℕ} 7 6 = (no _ _ _ h).1 in omega arith)
            | inr h ↦ absurd (let z : ◌≡◌ {A = ℕ} 0 1 = cc in omega arith)
          ]
        ]
      ]
