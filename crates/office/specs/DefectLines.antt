use Rattle.std.specs.Prelude.{ℕ, ◌-◌, cond, List, [], ◌∷◌, length, take, drop, Some, None, Ok, Err, codes, Option, Result, ◌==◌}
use Rattle.std.specs.Str.{bytes_eq}
use Rattle.defects.specs.declared.mark.Mark.{Mark}
use Rattle.defects.specs.declared.mark.Defect.{Defect}
use Rattle.defects.specs.declared.mark.Defect.TheVariants.{Worn, Lost}
use Rattle.office.specs.declared.defect_line.NoMark.{NoMark}
use Rattle.office.specs.Numbers.{number_in}

-- What stands before a suffix.
abbrev pub before : List ℕ → List ℕ → Option (List ℕ)
before suffix bs = cond (bytes_eq (drop (length bs - length suffix) bs) suffix) (Some (take (length bs - length suffix) bs)) None

abbrev pub mark_as : Defect → Option ℕ → Option Mark
mark_as d None = None
mark_as d (Some n) = Some (record { page = n; defect = d })

abbrev pub lost_in : Option (List ℕ) → Option Mark
lost_in None = None
lost_in (Some digits) = mark_as Lost (number_in digits)

abbrev pub worn_in : Option (List ℕ) → Option Mark → Option Mark
worn_in None other = other
worn_in (Some digits) other = mark_as Worn (number_in digits)

-- `PAGE worn` or `PAGE lost`.
abbrev pub mark_in : List ℕ → Option Mark
mark_in bs = worn_in (before (codes " worn") bs) (lost_in (before (codes " lost") bs))

-- A line that has to have a mark.
abbrev pub marked : Option Mark → Result (Option Mark) NoMark
marked None = Err (record {})
marked (Some m) = Ok (Some m)

-- A line of a defect file: blank, a comment after `#`, or a mark.
abbrev pub line_in : List ℕ → Result (Option Mark) NoMark
line_in [] = Ok None
line_in (c ∷ cs) = cond (c == 35) (Ok None) (marked (mark_in (c ∷ cs)))

-- How a line without one is told.
abbrev pub no_mark : List ℕ
no_mark = codes "is no mark: write a page number and worn or lost, as `3 worn`"
