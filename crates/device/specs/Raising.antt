-- What raising leaves: whether a page is there, and how many bytes it has.
use Rattle.std.specs.Prelude.{◌≡◌, ℕ, ◌<◌, ◌≤◌, Bool, true, false, is_some, Some, None, Option, nat_lt, refl}
use Rattle.std.proofs.Common.{sym, arith, ltb-true, ltb-false, lt-ltb, le-ltb}
use Rattle.device.specs.Row.{Page, sound, worn, lost, up_at}
use Rattle.device.specs.Shape.{Whole}

by_test : (a b x y : ℕ) → (a < b → x < y) → (x < y → a < b) → (t : Bool) → nat_lt a b ≡ t → t ≡ nat_lt x y
by_test a b x y p q true e = sym (lt-ltb x y (p (ltb-true a b e)))
by_test a b x y p q false e = sym (le-ltb x y (not_less x y (λ h. clash a b (q h) (ltb-false a b e))))
  where
    clash : (a b : ℕ) → a < b → b ≤ a → ⊥
    clash a b h l = omega arith

    not_less : (x y : ℕ) → (x < y → ⊥) → y ≤ x
    not_less x y f = omega arith

-- two tests of which each follows from the other
pub ltb-same : (a b x y : ℕ) → (a < b → x < y) → (x < y → a < b) → nat_lt a b ≡ nat_lt x y
ltb-same a b x y p q = by_test a b x y p q (nat_lt a b) refl

pub some_up : (o : Option Page) → is_some (up_at o) ≡ is_some o
some_up None = refl
some_up (Some p) = refl

pub whole_up : (o : Option Page) → Whole o → Whole (up_at o)
whole_up None w = w
whole_up (Some (sound bs)) w = w
whole_up (Some (worn o bs)) w = w
whole_up (Some (lost o)) w = w
