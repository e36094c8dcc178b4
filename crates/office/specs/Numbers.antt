use Rattle.std.specs.Prelude.{ℕ, ◌+◌, ◌-◌, ◌*◌, ◌^◌, cond, ◌&&◌, List, [], ◌∷◌, Some, None, fold, Option, nat_le, nat_lt}

-- A number with one decimal digit more, while it fits 32 bits.
abbrev pub digit_added : ℕ → ℕ → Option ℕ
digit_added n c = cond (nat_le 48 c && nat_le c 57) (cond (nat_lt (n * 10 + (c - 48)) (2 ^ 32)) (Some (n * 10 + (c - 48))) None) None

-- The same, once every digit before was one.
abbrev pub digit_more : Option ℕ → ℕ → Option ℕ
digit_more None c = None
digit_more (Some n) c = digit_added n c

-- The number that decimal digits write, if there is a digit and the number fits 32 bits.
abbrev pub number_in : List ℕ → Option ℕ
number_in [] = None
number_in (c ∷ cs) = fold digit_more (Some 0) (c ∷ cs)
