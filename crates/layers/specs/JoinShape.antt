-- A join of two devices has the shape that every device owes.
use Rattle.std.specs.Prelude.{◌≡◌, ℕ, ◌-◌, Bool, true, false, cond, is_some, None, Option, nat_lt, refl}
use Rattle.std.proofs.Common.{sym, ◌∙◌, arith, ltb-true, ltb-false, le-ltb}
use Rattle.device.specs.declared.device.Device as device
use Rattle.device.specs.Row.{Page, Row, up_at}
use Rattle.device.specs.Shape.{Shaped, Whole}
use Rattle.layers.specs.declared.join.Join.{Join}
use Rattle.device.specs.Raising.{ltb-same, some_up, whole_up}
use Rattle.layers.specs.Join.{join_row, join_size}

exact_at : (n m k : ℕ) (o q : Option Page) → is_some o ≡ nat_lt k n → is_some q ≡ nat_lt (k - n) m → (a : Bool) → nat_lt k 4294967295 ≡ a → (b : Bool) → nat_lt k n ≡ b → is_some (cond a (up_at (cond b o q)) None) ≡ nat_lt k (join_size n m)
exact_at n m k o q e f true t true u = let h = ltb-true k 4294967295 t in let i = ltb-true k n u in some_up o ∙ e ∙ ltb-same k n k (join_size n m) (λ z. omega arith) (λ z. omega arith)
exact_at n m k o q e f true t false u = let h = ltb-true k 4294967295 t in let i = ltb-false k n u in some_up q ∙ f ∙ ltb-same (k - n) m k (join_size n m) (λ z. omega arith) (λ z. omega arith)
exact_at n m k o q e f false t b u = let h = ltb-false k 4294967295 t in sym (le-ltb k (join_size n m) (omega arith))

whole_at : (o q : Option Page) (a b : Bool) → Whole o → Whole q → Whole (cond a (up_at (cond b o q)) None)
whole_at o q true true w v = whole_up o w
whole_at o q true false w v = whole_up q v
whole_at o q false b w v = tt

pub join_shaped : (n m : ℕ) (r t : Row) → Shaped n r → Shaped m t → Shaped (join_size n m) (join_row n r t)
join_shaped n m r t s u = record {
  few = omega arith;
  exact = λ k. exact_at n m k (r k) (t (k - n)) (s.exact k) (u.exact (k - n)) (nat_lt k 4294967295) refl (nat_lt k n) refl;
  whole = λ k. whole_at (r k) (t (k - n)) (nat_lt k 4294967295) (nat_lt k n) (s.whole k) (u.whole (k - n));
}

-- What a join means, over what its two devices mean.
abbrev pub join_of : {F S : Type 0} → device.Ghosts F → device.Ghosts S → device.Ghosts (Join F S)
join_of f s = record {
  size = λ j. join_size (f.size j.first) (s.size j.second);
  row = λ j. join_row (f.size j.first) (f.row j.first) (s.row j.second);
  shaped = λ j. join_shaped (f.size j.first) (s.size j.second) (f.row j.first) (s.row j.second) (f.shaped j.first) (s.shaped j.second);
}
