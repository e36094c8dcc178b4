use Rattle.std.specs.Prelude.{ℕ, ◌+◌, ◌-◌, min, cond, None, nat_lt}
use Rattle.device.specs.Row.{Row, up_at}

-- A window of a first page and a length shows those of its pages that exist below.
abbrev pub window_row : ℕ → ℕ → Row → Row
window_row first length below k = cond (nat_lt k length) (up_at (below (first + k))) None

-- How many pages it shows of a device with n.
abbrev pub window_size : ℕ → ℕ → ℕ → ℕ
window_size first length n = min length (n - first)
