-- Which pages stand in the frames after one has come.
use Rattle.std.proofs.Common.{◌≡◌, ℕ, ◌<◌, Bool, true, false, cond, eqb, List, [], ◌∷◌, ◌++◌, length, Some, None, Option, sym, refl, ap, ◌∙◌, arith, length-append, eq-eqb}
use Rattle.std.proofs.lemmas.List.{length-map}
use Rattle.std.proofs.lemmas.Bool.{false≢true}
use Rattle.std.proofs.lemmas.Bool.Decides.{nat_tests}
use Rattle.policy.specs.Runs.{instead, replaced, swapped}
use Rattle.policy.specs.Sets.{member, entered, grown}

member_push : (q y : ℕ) (xs : List ℕ) → member q (xs ++ y ∷ []) ≡ cond (eqb q y) true (member q xs)
member_push q y [] = grind (arith, nat_tests)
member_push q y (x ∷ xs) = let i = member_push q y xs in grind (arith, nat_tests)

-- the leaving page is gone, and no other but the page that came is new
other : (gone page q : ℕ) (xs : List ℕ) → eqb q page ≡ false → member q (replaced gone page xs) ≡ cond (eqb q gone) false (member q xs)
other gone page q [] e = grind (arith, nat_tests)
other gone page q (x ∷ xs) e = let i = other gone page q xs e in grind (arith, nat_tests)

came : (gone page : ℕ) (xs : List ℕ) → member gone xs ≡ true → member page (replaced gone page xs) ≡ true
came gone page [] h = absurd (false≢true h)
came gone page (x ∷ xs) h = let i = came gone page xs in grind (arith, nat_tests)

member-replaced : (gone page q : ℕ) (xs : List ℕ) → member gone xs ≡ true → member q (replaced gone page xs) ≡ cond (eqb q page) true (cond (eqb q gone) false (member q xs))
member-replaced gone page q xs h = let a = other gone page q xs in let b = came gone page xs h in grind (arith, nat_tests)

-- every page that leaves stands in a frame
abbrev pub Stands : Option ℕ → List ℕ → Type 0
Stands None held = Unit {0}
Stands (Some gone) held = member gone held ≡ true

pub member-swapped : (held : List ℕ) (page : ℕ) (out : Option ℕ) (q : ℕ) → Stands out held → member q (swapped held page out) ≡ entered (λ r. member r held) page out q
member-swapped held page None q h = member_push q page held
member-swapped held page (Some gone) q h = member-replaced gone page q held h

pub length-swapped : (held : List ℕ) (page : ℕ) (out : Option ℕ) → length (swapped held page out) ≡ grown (length held) out
length-swapped held page None = length-append held (page ∷ [])
length-swapped held page (Some gone) = length-map held (instead gone page)

-- a list whose pages are all in a set is not one of which none is
pub some-resident : (s : ℕ → Bool) (held : List ℕ) → 0 < length held → ((q : ℕ) → s q ≡ member q held) → ((q : ℕ) → member q held ≡ true → s q ≡ false) → ⊥
some-resident s [] l f g = omega arith
some-resident s (x ∷ xs) l f g =
    let here : member x (x ∷ xs) ≡ true = ap (λ (b : Bool). cond b true (member x xs)) (eq-eqb x x refl) in
    false≢true (sym (g x here) ∙ f x ∙ here)
