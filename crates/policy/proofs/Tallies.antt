-- What is read off the outcomes of references.
use Rattle.std.proofs.Common.{◌≡◌, ℕ, ◌+◌, Bool, true, false, cond, List, [], ◌∷◌, ◌++◌, length, Option, sym, refl, ap, ◌∙◌, append_assoc, arith}
use Rattle.std.specs.List.{count_by}
use Rattle.std.proofs.lemmas.List.{append-nil}
use Rattle.std.proofs.lemmas.List.Recursion.{is_count_by}
use Rattle.policy.specs.Runs.{hit_by, hits, fetches, left_by, left}
use Rattle.policy.specs.declared.outcome.Outcome.{Outcome}
use Rattle.policy.specs.declared.outcome.Outcome.TheVariants.{Hit, Fetch}

-- the hits, as std counts them
pub hits_counted : (os : List Outcome) → hits os ≡ count_by hit_by os
hits_counted os = is_count_by hits hit_by refl (λ o os. step (hit_by o) (hits os)) os
  where
    step : (b : Bool) (n : ℕ) → cond b 1 0 + n ≡ cond b (1 + n) n
    step true n = refl
    step false n = omega arith

-- every reference is a hit or a fetch
pub all-counted : (os : List Outcome) → hits os + fetches os ≡ length os
all-counted [] = refl
all-counted (o ∷ os) = step (hit_by o) (all-counted os)
  where
    step : (b : Bool) → hits os + fetches os ≡ length os → (cond b 1 0 + hits os) + (cond b 0 1 + fetches os) ≡ length (o ∷ os)
    step true h = omega arith
    step false h = omega arith

-- with one more
pub left_push : (os : List Outcome) (o : Outcome) → left (os ++ o ∷ []) ≡ left os ++ left_by o
left_push [] o = append-nil (left_by o)
left_push (p ∷ os) o = ap (λ (l : List ℕ). left_by p ++ l) (left_push os o) ∙ sym (append_assoc (left_by p) (left os) (left_by o))

pub hits_push : (os : List Outcome) (o : Outcome) → hits (os ++ o ∷ []) ≡ hits os + cond (hit_by o) 1 0
hits_push [] o = omega arith
hits_push (p ∷ os) o = let i = hits_push os o in omega arith

pub fetches_push : (os : List Outcome) (o : Outcome) → fetches (os ++ o ∷ []) ≡ fetches os + cond (hit_by o) 0 1
fetches_push [] o = omega arith
fetches_push (p ∷ os) o = let i = fetches_push os o in omega arith

-- a reference that fetched is no hit
pub hit_of : (fetched : Bool) (out : Option ℕ) → ◌≡◌ {A = ℕ} (cond (hit_by (cond fetched (Fetch out) Hit)) 1 0) (cond fetched 0 1)
hit_of true out = refl
hit_of false out = refl

pub fetch_of : (fetched : Bool) (out : Option ℕ) → ◌≡◌ {A = ℕ} (cond (hit_by (cond fetched (Fetch out) Hit)) 0 1) (cond fetched 1 0)
fetch_of true out = refl
fetch_of false out = refl
