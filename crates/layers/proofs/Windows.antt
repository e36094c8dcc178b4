-- Where a window shows no page.
use Rattle.std.proofs.Common.{◌≡◌, ℕ, ◌+◌, ◌<◌, ◌≤◌, Bool, true, false, cond, ltb, is_some, Some, None, Option, sym, refl, ap, ◌∙◌, arith, ltb-true, le-ltb}
use Rattle.std.proofs.lemmas.Bool.{false≢true}
use Rattle.device.specs.Row.{Page, Row, up_at}
use Rattle.device.specs.Shape.{Shaped}
use Rattle.layers.specs.Window.{window_row}

none_of : (o : Option Page) → is_some o ≡ false → o ≡ None
none_of None h = refl
none_of (Some p) h = absurd (false≢true (sym h))

-- no page is shown past the length, or where none can lie below
pub window_none : (f l n : ℕ) (r : Row) (k : ℕ) → Shaped n r → (k < l → 4294967296 ≤ f + k) → window_row f l r k ≡ None
window_none f l n r k s far = by_test (ltb k l) refl
  where
    by_test : (b : Bool) → ltb k l ≡ b → cond b (up_at (r (f + k))) None ≡ None
    by_test true t =
        let h = far (ltb-true k l t) in
        let few = s.few in
        ap up_at (none_of (r (f + k)) (s.exact (f + k) ∙ le-ltb (f + k) n (omega arith)))
    by_test false t = refl
