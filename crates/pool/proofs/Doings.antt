-- What a refused call and an accepted fix come to.
use Rattle.std.proofs.Common.{◌≡◌, ℕ, ◌+◌, Bool, true, false, cond, eqb, ◌≢◌, List, [], ◌∷◌, IsErrAnd, Some, None, Ok, Err, Option, Result, sym, refl, ap, ◌∙◌, subst, inl, inr, arith, MatchOption}
use Rattle.std.specs.Option.{ok_or}
use Rattle.std.proofs.lemmas.Bool.{both_ways, false≢true, cond-true, cond-false, eq-eqb, ne_eqb}
use Rattle.page.specs.declared.refusal.Refusal.{Refusal}
use Rattle.device.specs.declared.device.Device as device
use Rattle.device.proofs.Passing.{exit_passed}
use Rattle.policy.specs.declared.outcome.Outcome.{Outcome}
use Rattle.policy.specs.declared.outcome.Outcome.TheVariants.{Hit, Fetch}
use Rattle.policy.specs.declared.policy.Policy as policy
use Rattle.book.specs.Book.{Book, refusal, accepted, decided, says, next}
use Rattle.book.specs.Call.{Call, Answer}
use Rattle.book.specs.Call.Call.{Fix}
use Rattle.book.specs.Call.Answer.{Granted, Refused}
use Rattle.book.specs.declared.grant.Kind.{Kind}
use Rattle.turns.specs.Turns.{Course, named, unless, resident_after, Fixed, Turned}
use Rattle.pool.specs.declared.pool.Pool.{Pool}
use Rattle.pool.specs.Did.{Did}
use Rattle.pool.specs.Meaning.{book, course}
use Rattle.pool.specs.Steps.{verdict, Left, DidTake}
use Rattle.pool.proofs.Places.{some-none}

pub says-refused : (b : Book) (call : Call) (r : Refusal) → refusal b call ≡ Some r → Refused r ≡ says b call
says-refused b call r e = sym (ap (λ (o : Option Refusal). (decided b o (accepted b call)).0) e)

pub says-accepted : (b : Book) (call : Call) → refusal b call ≡ None → (accepted b call).0 ≡ says b call
says-accepted b call e = sym (ap (λ (o : Option Refusal). (decided b o (accepted b call)).0) e)

pub next-refused : (b : Book) (call : Call) (r : Refusal) → refusal b call ≡ Some r → b ≡ next b call
next-refused b call r e = sym (ap (λ (o : Option Refusal). (decided b o (accepted b call)).1) e)

pub next-accepted : (b : Book) (call : Call) → refusal b call ≡ None → (accepted b call).1 ≡ next b call
next-accepted b call e = sym (ap (λ (o : Option Refusal). (decided b o (accepted b call)).1) e)

-- a verdict tells which question decided
pub verdict-some : (o : Option Refusal) (r : Refusal) → Err r ≡ verdict o → o ≡ Some r
verdict-some None r e = let z : ◌≡◌ {A = ℕ} 0 1 = cc in absurd (omega arith)
verdict-some (Some x) r e = cc

pub verdict-none : (o : Option Refusal) → Ok tt ≡ verdict o → o ≡ None
verdict-none None e = refl
verdict-none (Some x) e = let z : ◌≡◌ {A = ℕ} 0 1 = cc in absurd (omega arith)

-- the exit of a `?` returns the error as it was
pub exit_err : {A : Type 0} (r : Result A Refusal) (e : Refusal) → IsErrAnd r (λ y. y ≡ e) → r ≡ Err e
exit_err r e h = exit_passed r (Err e) e h refl

-- and an `ok_or` at a none gives its error
pub none_err : {A : Type 0} (o : Option A) (e r : Refusal) → o ≡ None → Err e ≡ ok_or o r → e ≡ r
none_err None e r n h = cc
none_err (Some x) e r n h = absurd (some-none x n)

-- no turn of the policy's
pub no_turn : {P : Type 0} (p : policy.Ghosts P) (b : Book) (x x' : Course p.Model) (call : Call) → unless (refusal b call) (named call) ≡ None → x' ≡ x → Turned p b x call [] x'
no_turn p b x x' call e h =
    let T : Option ℕ → Type 0 = λ o. MatchOption o ((x' ≡ x) × (◌≡◌ {A = List Outcome} [] [])) (Fixed p b x [] x') in
    subst T (sym e) (h, refl)

-- the page that left was resident, and is no more
left-gone : (was is : ℕ → Bool) (page : ℕ) (o : Outcome) (q : ℕ) → ((k : ℕ) → is k ≡ resident_after was page o k) → Left o q → was q ≡ true → q ≢ page → cond (was q) (cond (is q) false true) false ≡ true
left-gone was is page Hit q r l w ne = absurd l
left-gone was is page (Fetch out) q r l w ne =
    let gone : is q ≡ false = r q ∙ ap (λ (x : Option ℕ). resident_after was page (Fetch x) q) l ∙ cond-false (eqb q page) true (cond (eqb q q) false (was q)) (ne_eqb q page ne) ∙ cond-true (eqb q q) false (was q) (eq-eqb q q refl) in
    cond-true (was q) (cond (is q) false true) false w ∙ cond-false (is q) false true gone

module _ {D P : Type 0} {d : device.Ghosts D} {p : policy.Ghosts P} where
  pub did-refused : (pool : Pool D P d p) (call : Call) (r : Refusal) → refusal (book pool) call ≡ Some r → Did pool call (Refused r) pool
  did-refused pool call r e = record {
    outcomes = [];
    doing = record {
      step = record {
        answer = says-refused (book pool) call r e;
        after = next-refused (book pool) call r e;
        moved = λ q. inl refl;
        flushed = λ q f. absurd (some-none r (sym e ∙ f.accepted));
      };
      turned = no_turn p (book pool) _ _ call (ap (λ (o : Option Refusal). unless o (named call)) e) refl;
    };
    refused = λ x h. refl;
    still = λ h. refl;
    apart = λ q h. refl;
  }

  -- the exit of a `?` answers the refusal
  pub exit_refused : (pool : Pool D P d p) (call : Call) (answer : Result (Unit {0}) Refusal → Answer) → ((e : Refusal) → answer (Err e) ≡ Refused e) → (r : Result (Unit {0}) Refusal) (e : Refusal) → IsErrAnd r (λ y. y ≡ e) → refusal (book pool) call ≡ Some e → Did pool call (answer r) pool
  exit_refused pool call answer is r e h why =
      let A : Answer → Type 0 = λ a. Did pool call a pool in
      subst A (sym (ap answer (exit_err r e h) ∙ is e)) (did-refused pool call e why)

  pub did_fix : (pool pool' : Pool D P d p) (kind : Kind) (page : ℕ) → refusal (book pool) (Fix kind page) ≡ None → DidTake pool kind page (pool.clock + 1) pool' → Did pool (Fix kind page) (Granted (record { kind = kind; mark = pool.mark; page = page })) pool'
  did_fix pool pool' kind page e t =
      let b = book pool in
      let T : Option ℕ → Type 0 = λ o. MatchOption o ((course pool' ≡ course pool) × (t.outcome ∷ [] ≡ [])) (Fixed p b (course pool) (t.outcome ∷ []) (course pool')) in
      record {
        outcomes = t.outcome ∷ [];
        doing = record {
          step = record {
            answer = says-accepted b (Fix kind page) e;
            after = t.next ∙ next-accepted b (Fix kind page) e;
            moved = λ q. elim (t.below q) [ inl h ↦ inl h | inr h ↦ inr h.1 ];
            flushed = λ q f. absurd (false≢true f.named);
          };
          turned = subst T (sym (ap (λ (o : Option Refusal). unless o (Some page)) e)) (record { outcome = t.outcome; only = refl; turn = t.turn });
        };
        refused = λ r h. absurd (some-none r (sym h ∙ e));
        still = λ h. absurd (false≢true (sym h));
        apart = λ q h. elim (t.below q) [
          | inl x ↦ x
          | inr x ↦ absurd (both_ways _ h (left-gone _ _ page t.outcome q t.turn.resident x.0 (t.left q x.0).0 (t.left q x.0).1))
        ];
      }
