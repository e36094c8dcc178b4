use Rattle.std.specs.Prelude.{◌≡◌, ℕ, zero, suc, ◌+◌, List, [], ◌∷◌, ◌++◌, length, get_or, Some, None, Ok, Err, Option, Result, String, vec_items}
use Rattle.std.specs.Global.{Global}
use Rattle.std.specs.List.{slice_get}
use Rattle.office.specs.DefectLines.{line_in}
use Rattle.office.specs.declared.defect_line.NoMark.{NoMark}
use Rattle.defects.specs.declared.mark.Mark.{Mark}
use Rattle.volume.specs.declared.marking.MarkRefused.{MarkRefused}
use Rattle.desk.specs.declared.defect_file.DefectFile.{DefectFile}
use Rattle.desk.specs.declared.defect_file.LineMark.{LineMark}
use Rattle.desk.specs.declared.problem.BookProblem.{BookProblem}
use Rattle.desk.specs.declared.problem.BookProblem.TheVariants as problem

-- What line n, read after others with these marks, makes of the marks. A line that is no mark ends them with its number.
abbrev pub with_line : ℕ → List LineMark → Result (Option Mark) NoMark → Result (List LineMark) ℕ
with_line n marks (Ok None) = Ok marks
with_line n marks (Ok (Some m)) = Ok (marks ++ (record { line = n; mark = m } ∷ []))
with_line n marks (Err e) = Err n

abbrev pub line_more : Result (List LineMark) ℕ → ℕ → List ℕ → Result (List LineMark) ℕ
line_more (Ok marks) n bs = with_line n marks (line_in bs)
line_more (Err k) n bs = Err k

-- The marks of the first n lines, which are counted from 1, or the number of the first of them that is no mark.
abbrev pub marks_to : List (List ℕ) → ℕ → Result (List LineMark) ℕ
marks_to lines zero = Ok []
marks_to lines (suc n) = line_more (marks_to lines n) (n + 1) (get_or lines n [])

abbrev pub marks_in : List (List ℕ) → Result (List LineMark) ℕ
marks_in lines = marks_to lines (length lines)

-- A defect file is its name and its marks.
abbrev pub Parsed : String Global → Result (List LineMark) ℕ → DefectFile → Type 0
Parsed name marks f = (f.name ≡ name) × (marks ≡ Ok (vec_items f.marks))

-- A text is refused at its first line that is no mark, or memory is short.
abbrev pub Unparsed : String Global → Result (List LineMark) ℕ → BookProblem → Type 0
Unparsed name marks (problem.Line file n e) = (file ≡ name) × (marks ≡ Err n)
Unparsed name marks (problem.Memory e) = Unit {0}
Unparsed name marks (problem.File file e) = ⊥
Unparsed name marks (problem.PartPage file n) = ⊥
Unparsed name marks (problem.Mark file n e) = ⊥

-- The line of a mark; 0 where there is none.
abbrev pub line_of : Option LineMark → ℕ
line_of None = 0
line_of (Some m) = m.line

-- The problem that a refused mark of a defect file is.
abbrev pub blamed : DefectFile → MarkRefused → BookProblem
blamed f e = problem.Mark f.name (line_of (slice_get (vec_items f.marks) e.at)) e.refusal
