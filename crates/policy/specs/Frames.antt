use Rattle.std.specs.Prelude.{ℕ, ◌<◌, ◌≤◌, ◌⊎◌}

-- The numbers that are a frame count, and those that are none.
abbrev pub InRange : ℕ → Type 0
InRange n = (4 ≤ n) × (n ≤ 64)

abbrev pub OutOfRange : ℕ → Type 0
OutOfRange n = (n < 4) ⊎ (64 < n)
