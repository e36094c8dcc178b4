use Rattle.std.specs.Prelude.{◌≡◌, ℕ, ◌+◌, ◌-◌, ◌<◌, ◌≤◌, min, cond, None, nat_lt}
use Rattle.device.specs.Row.{Row, up_at}
use Rattle.layers.specs.declared.join.Side.{Side}
use Rattle.layers.specs.declared.join.Side.TheVariants.{First, Second}

-- A join shows the pages of a device that has n and then those of another, up to 4,294,967,295.
abbrev pub join_row : ℕ → Row → Row → Row
join_row n first second k = cond (nat_lt k 4294967295) (up_at (cond (nat_lt k n) (first k) (second (k - n)))) None

-- How many pages it shows of two devices with n and m.
abbrev pub join_size : ℕ → ℕ → ℕ
join_size n m = min 4294967295 (n + m)

-- Where page k of a join lies, n being the count of the first device.
abbrev pub LiesAt : ℕ → ℕ → Side → Type 0
LiesAt n k (First at) = (k < n) × (at ≡ k)
LiesAt n k (Second at) = (n ≤ k) × (at ≡ k - n)
