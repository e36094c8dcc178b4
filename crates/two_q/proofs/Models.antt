-- Models with equal lists are equal.
use Rattle.std.proofs.Common.{◌≡◌, ℕ, List}
use Rattle.two_q.specs.Model.{Model}

pub models : {b : ℕ} {a a' i i' o o' : List ℕ} → a ≡ a' → i ≡ i' → o ≡ o' → ◌≡◌ {A = Model} (record { bound = b; am = a; a1in = i; a1out = o }) (record { bound = b; am = a'; a1in = i'; a1out = o' })
models {b} e f g = λ j. record { bound = b; am = e j; a1in = f j; a1out = g j }
