-- A window over a device has the shape that every device owes.
use Rattle.std.specs.Prelude.{◌≡◌, ℕ, ◌+◌, ◌-◌, ◌<◌, ◌≤◌, min, Bool, true, false, cond, is_some, None, Option, nat_lt, refl}
use Rattle.std.proofs.Common.{sym, ◌∙◌, arith, ltb-true, ltb-false, le-ltb}
use Rattle.device.specs.declared.device.Device as device
use Rattle.device.specs.Row.{Page, Row, up_at}
use Rattle.device.specs.Shape.{Shaped, Whole}
use Rattle.layers.specs.declared.window.Window.{Window}
use Rattle.device.specs.Raising.{ltb-same, some_up, whole_up}
use Rattle.layers.specs.Window.{window_row, window_size}

exact_at : (f l k n : ℕ) (o : Option Page) → is_some o ≡ nat_lt (f + k) n → (b : Bool) → nat_lt k l ≡ b → is_some (cond b (up_at o) None) ≡ nat_lt k (window_size f l n)
exact_at f l k n o e true t = let h : k < l = ltb-true k l t in some_up o ∙ e ∙ ltb-same (f + k) n k (min l (n - f)) (λ q. omega arith) (λ q. omega arith)
exact_at f l k n o e false t = let h : l ≤ k = ltb-false k l t in sym (le-ltb k (min l (n - f)) (omega arith))

whole_at : (o : Option Page) (b : Bool) → Whole o → Whole (cond b (up_at o) None)
whole_at o true w = whole_up o w
whole_at o false w = tt

pub window_shaped : (f l n : ℕ) (r : Row) → Shaped n r → Shaped (window_size f l n) (window_row f l r)
window_shaped f l n r s = record {
  few = let h = s.few in omega arith;
  exact = λ k. exact_at f l k n (r (f + k)) (s.exact (f + k)) (nat_lt k l) refl;
  whole = λ k. whole_at (r (f + k)) (nat_lt k l) (s.whole (f + k));
}

-- What a window means, over what the device below means.
abbrev pub window_of : {D : Type 0} → device.Ghosts D → device.Ghosts (Window D)
window_of d = record {
  size = λ w. window_size w.first w.length (d.size w.below);
  row = λ w. window_row w.first w.length (d.row w.below);
  shaped = λ w. window_shaped w.first w.length (d.size w.below) (d.row w.below) (d.shaped w.below);
}
