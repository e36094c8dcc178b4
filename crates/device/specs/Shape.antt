use Rattle.std.specs.Prelude.{◌≡◌, ℕ, ◌≤◌, length, is_some, Some, None, Option, nat_lt}
use Rattle.device.specs.Row.{Page, sound, worn, lost, Row}

-- A readable page has 512 bytes.
abbrev pub Whole : Option Page → Type 0
Whole None = Unit {0}
Whole (Some (sound bs)) = length bs ≡ 512
Whole (Some (worn o bs)) = length bs ≡ 512
Whole (Some (lost o)) = Unit {0}

-- The shape of every device's row: it has exactly the pages below its size, at most 4,294,967,295
-- of them, and every readable page has 512 bytes.
pub record Shaped (size : ℕ) (row : Row) : Type 0 where
  pub few : size ≤ 4294967295
  pub exact : (k : ℕ) → is_some (row k) ≡ nat_lt k size
  pub whole : (k : ℕ) → Whole (row k)
