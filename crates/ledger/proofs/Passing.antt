-- What an answer whose refusal was turned into a fault was before.
use Rattle.std.proofs.Common.{◌≡◌, ℕ, Ok, Err, MatchResult, IsErrAnd, Result, refl, subst, arith}
use Rattle.page.specs.declared.refusal.Refusal.{Refusal}
use Rattle.ledger.specs.declared.fault.Fault.{Fault}

module _ {A : Type 0} where
  pub kept-ok : (s : Result A Refusal) (t : Result A Fault) (Q : Refusal → Fault → Type 0) → MatchResult s (λ x. t ≡ Ok x) (λ e. IsErrAnd t (Q e)) → (x : A) → t ≡ Ok x → s ≡ Ok x
  kept-ok (Ok y) (Ok z) Q h x e = cc
  kept-ok (Ok y) (Err z) Q h x e = let n : ◌≡◌ {A = ℕ} 0 1 = cc in absurd (omega arith)
  kept-ok (Err y) (Ok z) Q h x e = absurd h
  kept-ok (Err y) (Err z) Q h x e = let n : ◌≡◌ {A = ℕ} 0 1 = cc in absurd (omega arith)

  pub kept-err : (s : Result A Refusal) (t : Result A Fault) (Q : Refusal → Fault → Type 0) → MatchResult s (λ x. t ≡ Ok x) (λ e. IsErrAnd t (Q e)) → (f : Fault) → t ≡ Err f → (r : Refusal) × (s ≡ Err r) × Q r f
  kept-err (Ok y) t Q h f e = let n : ◌≡◌ {A = ℕ} 0 1 = cc in absurd (omega arith)
  kept-err (Err y) (Ok z) Q h f e = absurd h
  kept-err (Err y) (Err z) Q h f e = (y, refl, subst (Q y) (let k : z ≡ f = cc in k) h)
