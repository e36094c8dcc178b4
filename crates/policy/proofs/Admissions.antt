-- What an accepted admission has, over any policy.
use Rattle.std.proofs.Common.{◌≡◌, ℕ, ◌<◌, Bool, true, false, cond, eqb, Some, None, Option, arith, ltb-true}
use Rattle.std.proofs.lemmas.Bool.{false≢true}
use Rattle.std.proofs.lemmas.Bool.Decides.{nat_tests}
use Rattle.recency.proofs.Pages.{by_bool}
use Rattle.policy.specs.Sets.{accepts}

accepted_by : (a b : Bool) → cond a false b ≡ true → b ≡ true
accepted_by true b h = absurd (false≢true h)
accepted_by false b h = h

-- a leaving page that is resident, or a free frame
abbrev pub Leaves : (ℕ → Bool) → ℕ → ℕ → Option ℕ → Type 0
Leaves s n bound None = n < bound
Leaves s n bound (Some q) = s q ≡ true

pub leaves : (s : ℕ → Bool) (n bound p : ℕ) (l : Option ℕ) → accepts s n bound p l ≡ true → Leaves s n bound l
leaves s n bound p None h = ltb-true n bound (accepted_by (s p) _ h)
leaves s n bound p (Some q) h = accepted_by (s p) _ h

pub absent : (s : ℕ → Bool) (n bound p : ℕ) (l : Option ℕ) → accepts s n bound p l ≡ true → s p ≡ false
absent s n bound p None h = by_bool (s p) (λ e. absurd (false≢true (rw e at h))) (λ e. e)
absent s n bound p (Some q) h = by_bool (s p) (λ e. absurd (false≢true (rw e at h))) (λ e. e)

-- a test of two numbers, either way round
pub turned : (p r : ℕ) → eqb p r ≡ eqb r p
turned p r = grind (arith, nat_tests)
