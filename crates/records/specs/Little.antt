use Rattle.std.specs.Prelude.{ℕ, zero, suc, ◌+◌, ◌*◌, ◌/◌, ◌%◌, Bool, true, false, cond, List, [], ◌∷◌, take, drop, ◌==◌}

-- A number in w bytes, the lowest byte first.
abbrev pub bytes_of : ℕ → ℕ → List ℕ
bytes_of zero n = []
bytes_of (suc w) n = n % 256 ∷ bytes_of w (n / 256)

-- The number that bytes write, the lowest byte first.
abbrev pub number_of : List ℕ → ℕ
number_of [] = 0
number_of (b ∷ bs) = b + 256 * number_of bs

-- The number in w bytes from a place on.
abbrev pub field : ℕ → ℕ → List ℕ → ℕ
field at w bs = number_of (take w (drop at bs))

-- Whether bytes are all zero.
abbrev pub blank : List ℕ → Bool
blank [] = true
blank (b ∷ bs) = cond (b == 0) (blank bs) false
