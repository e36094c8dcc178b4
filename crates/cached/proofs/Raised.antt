-- An answer passed on by one layer is an acceptance where it was one below.
use Rattle.std.proofs.Common.{◌≡◌, ℕ, Ok, Err, Result, sym, refl, ◌∙◌, subst, arith}
use Rattle.page.specs.declared.refusal.Refusal.{Refusal}
use Rattle.page.specs.Raise.{raised_result}

raised_ok : (r : Result (Unit {0}) Refusal) (x : Unit {0}) → Ok x ≡ raised_result r → r ≡ Ok tt
raised_ok (Ok y) x h = refl
raised_ok (Err e) x h = let z : ◌≡◌ {A = ℕ} 0 1 = cc in absurd (omega arith)

pub accepted_below : (R : Result (Unit {0}) Refusal → Type 0) (r answer : Result (Unit {0}) Refusal) (x : Unit {0}) → answer ≡ raised_result r → answer ≡ Ok x → R r → R (Ok tt)
accepted_below R r answer x is ok h = subst R (raised_ok r x (sym ok ∙ is)) h
