-- The places of a defect list, one by one.
use Rattle.std.proofs.Common.{◌≡◌, ℕ, zero, suc, ◌+◌, ◌<◌, ◌≤◌, Bool, true, false, cond, eqb, ltb, [], ◌∷◌, length, get_or, set, is_some, Some, None, Ok, Err, Option, Result, sym, refl, ap, ◌∙◌, arith, length-set, MatchOption}
use Rattle.std.proofs.lemmas.Bool.{cond-true, cond-false, eq-eqb, ne_eqb, eqb-true, lt-ltb, false≢true}
use Rattle.page.specs.declared.refusal.Refusal.{Refusal}
use Rattle.page.specs.declared.refusal.Refusal.TheVariants.{NoPlace}
use Rattle.defects.specs.declared.mark.Defect.{Defect}
use Rattle.defects.specs.declared.mark.Mark.{Mark}
use Rattle.defects.specs.Defects.{Marks, Marking, said_of, or_else, mark_of, taken, worst, mark_answer}
use Rattle.defects.specs.Spots.{Spot, Unmarked, Filled}

-- places that say nothing of a page, all of them
unmarked-none : (ms : Marks) (k : ℕ) → Unmarked ms (length ms) k → mark_of ms k ≡ None
unmarked-none [] k u = refl
unmarked-none (m ∷ ms) k u = ap (λ o. or_else o (mark_of ms k)) (u 0 (omega arith)) ∙ unmarked-none ms k (λ j h. u (suc j) (omega arith))

-- what the first place says that says anything of a page
at_first : (ms : Marks) (i k : ℕ) (d : Defect) → i < length ms → said_of (get_or ms i None) k ≡ Some d → Unmarked ms i k → mark_of ms k ≡ Some d
at_first [] i k d h e u = absurd (omega arith)
at_first (m ∷ ms) zero k d h e u = ap (λ o. or_else o (mark_of ms k)) e
at_first (m ∷ ms) (suc i) k d h e u = ap (λ o. or_else o (mark_of ms k)) (u 0 (omega arith)) ∙ at_first ms i k d (omega arith) e (λ j l. u (suc j) (omega arith))

abbrev pub SaidFirst : Marks → ℕ → Option Defect → Type 0
SaidFirst ms k r = MatchOption r (Unmarked ms (length ms) k) (λ d. (i : ℕ) × (i < length ms) × (said_of (get_or ms i None) k ≡ Some d) × Unmarked ms i k)

pub said_first : (ms : Marks) (k : ℕ) (r : Option Defect) → SaidFirst ms k r → r ≡ mark_of ms k
said_first ms k None u = sym (unmarked-none ms k u)
said_first ms k (Some d) s = sym (at_first ms s.0 k d s.1 s.2 s.3)

-- places that are taken, all of them
filled-taken : (ms : Marks) → Filled ms (length ms) → taken ms ≡ length ms
filled-taken [] f = refl
filled-taken (m ∷ ms) f =
    let e = filled-taken ms (λ j h. f (suc j) (omega arith)) in
    ap (λ b. cond b 1 0 + taken ms) (f 0 (omega arith)) ∙ omega arith

-- a place that says something of a page
said_page : (o : Option Mark) (page k : ℕ) → is_some (said_of o page) ≡ true → (k ≡ page → ⊥) → said_of o k ≡ None
said_page None page k h n = refl
said_page (Some m) page k h n = by_test (eqb m.page page) refl h
  where
    by_test : (b : Bool) → eqb m.page page ≡ b → is_some (cond b (Some m.defect) None) ≡ true → said_of (Some m) k ≡ None
    by_test true e s = cond-false (eqb m.page k) (Some m.defect) None (ne_eqb m.page k (λ q. n (sym q ∙ eqb-true m.page page e)))
    by_test false e s = absurd (false≢true s)

said_taken : (o : Option Mark) (page : ℕ) → is_some (said_of o page) ≡ true → is_some o ≡ true
said_taken None page h = h
said_taken (Some m) page h = refl

or_some : (o q : Option Defect) → is_some q ≡ true → is_some (or_else o q) ≡ true
or_some None q h = h
or_some (Some d) q h = refl

or_first : (o q : Option Defect) → is_some o ≡ true → is_some (or_else o q) ≡ true
or_first None q h = absurd (false≢true h)
or_first (Some d) q h = refl

said_marked : (ms : Marks) (i page : ℕ) → i < length ms → is_some (said_of (get_or ms i None) page) ≡ true → is_some (mark_of ms page) ≡ true
said_marked [] i page h s = absurd (omega arith)
said_marked (m ∷ ms) zero page h s = or_first (said_of m page) (mark_of ms page) s
said_marked (m ∷ ms) (suc i) page h s = or_some (said_of m page) (mark_of ms page) (said_marked ms i page (omega arith) s)

spot_marked : (ms : Marks) (page i : ℕ) → i < length ms → is_some (said_of (get_or ms i None) page) ≡ true → Unmarked ms i page → Spot ms page i
spot_marked ms page i h s u = record {
  within = h;
  before = u;
  others = λ k n. said_page (get_or ms i None) page k s n;
  free = said_taken (get_or ms i None) page s ∙ sym (said_marked ms i page h s);
}

spot_free : (ms : Marks) (page i : ℕ) → i < length ms → Unmarked ms (length ms) page → get_or ms i None ≡ None → Spot ms page i
spot_free ms page i h u e = record {
  within = h;
  before = λ j l. u j (omega arith);
  others = λ k n. ap (λ o. said_of o k) e;
  free = ap (λ o. is_some o) e ∙ sym (ap (λ o. is_some o) (unmarked-none ms page u));
}

-- a place that is written
set_here : (ms : Marks) (i k : ℕ) (m : Option Mark) (d : Defect) → i < length ms → Unmarked ms i k → said_of m k ≡ Some d → mark_of (set ms i m) k ≡ Some d
set_here [] i k m d h u e = absurd (omega arith)
set_here (x ∷ ms) zero k m d h u e = ap (λ o. or_else o (mark_of ms k)) e
set_here (x ∷ ms) (suc i) k m d h u e = ap (λ o. or_else o (mark_of (set ms i m) k)) (u 0 (omega arith)) ∙ set_here ms i k m d (omega arith) (λ j l. u (suc j) (omega arith)) e

set_other : (ms : Marks) (i k : ℕ) (m : Option Mark) → i < length ms → said_of (get_or ms i None) k ≡ None → said_of m k ≡ None → mark_of (set ms i m) k ≡ mark_of ms k
set_other [] i k m h e f = absurd (omega arith)
set_other (x ∷ ms) zero k m h e f = ap (λ o. or_else o (mark_of ms k)) (f ∙ sym e)
set_other (x ∷ ms) (suc i) k m h e f = ap (or_else (said_of x k)) (set_other ms i k m (omega arith) e f)

set-taken : (ms : Marks) (i : ℕ) (m : Mark) → i < length ms → taken (set ms i (Some m)) ≡ taken ms + cond (is_some (get_or ms i None)) 0 1
set-taken [] i m h = absurd (omega arith)
set-taken (None ∷ ms) zero m h = omega arith
set-taken (Some x ∷ ms) zero m h = omega arith
set-taken (x ∷ ms) (suc i) m h = let e = set-taken ms i m (omega arith) in omega arith

pub marking : (ms : Marks) (page i : ℕ) (d : Defect) → Spot ms page i → Marking ms page d (set ms i (Some (record { page = page; defect = worst (mark_of ms page) d })))
marking ms page i d s =
    let m : Mark = record { page = page; defect = worst (mark_of ms page) d } in
    record {
      marks = set_here ms i page (Some m) m.defect s.within s.before (cond-true (eqb page page) (Some m.defect) None (eq-eqb page page refl));
      others = λ k n. set_other ms i k (Some m) s.within (s.others k n) (cond-false (eqb page k) (Some m.defect) None (ne_eqb page k (λ e. n (sym e))));
      places = set-taken ms i m s.within ∙ ap (λ b. taken ms + cond b 0 1) s.free;
      room = length-set ms i (Some m);
    }

-- a free place, or none where all are taken
spot_if_free : (ms : Marks) (page : ℕ) → Unmarked ms (length ms) page → (o : Option ℕ) → MatchOption o (Filled ms (length ms)) (λ i. (i < length ms) × (get_or ms i None ≡ None)) → MatchOption o ((mark_of ms page ≡ None) × (taken ms ≡ length ms)) (Spot ms page)
spot_if_free ms page u None f = (unmarked-none ms page u, filled-taken ms f)
spot_if_free ms page u (Some i) h = spot_free ms page i h.0 u h.1

-- the place of the page's mark, or else a free one
pub spot_by : (ms : Marks) (page : ℕ) (Other : Type 0) (m r : Option ℕ) → MatchOption m (Unmarked ms (length ms) page) (λ i. (i < length ms) × (is_some (said_of (get_or ms i None) page) ≡ true) × Unmarked ms i page) → MatchOption m Other (λ i. r ≡ Some i) → (Other → MatchOption r (Filled ms (length ms)) (λ i. (i < length ms) × (get_or ms i None ≡ None))) → MatchOption r ((mark_of ms page ≡ None) × (taken ms ≡ length ms)) (Spot ms page)
spot_by ms page Other None r u f free = spot_if_free ms page u r (free f)
spot_by ms page Other (Some i) r h e free = rw e (spot_marked ms page i h.0 h.1 h.2)

taken-most : (ms : Marks) → taken ms ≤ length ms
taken-most [] = omega arith
taken-most (None ∷ ms) = let h = taken-most ms in omega arith
taken-most (Some m ∷ ms) = let h = taken-most ms in omega arith

free-taken : (ms : Marks) (i : ℕ) → i < length ms → is_some (get_or ms i None) ≡ false → taken ms < length ms
free-taken [] i h e = absurd (omega arith)
free-taken (None ∷ ms) zero h e = let l = taken-most ms in omega arith
free-taken (Some m ∷ ms) zero h e = absurd (false≢true (sym e))
free-taken (None ∷ ms) (suc i) h e = let l = free-taken ms i (omega arith) e in omega arith
free-taken (Some m ∷ ms) (suc i) h e = let l = free-taken ms i (omega arith) e in omega arith

abbrev accept : Result (Unit {0}) Refusal
accept = Ok tt

-- a mark that has a place to go to is accepted
pub spot_accepts : (n : ℕ) (ms : Marks) (page i : ℕ) → page < n → Spot ms page i → Ok tt ≡ mark_answer n ms page
spot_accepts n ms page i h s = sym (cond-true (ltb page n) _ _ (lt-ltb page n h) ∙ by_test (is_some (mark_of ms page)) refl)
  where
    by_test : (b : Bool) → is_some (mark_of ms page) ≡ b → cond b accept (cond (ltb (taken ms) (length ms)) accept (Err NoPlace)) ≡ accept
    by_test true e = refl
    by_test false e = cond-true (ltb (taken ms) (length ms)) accept (Err NoPlace) (lt-ltb (taken ms) (length ms) (free-taken ms i s.within (s.free ∙ e)))
