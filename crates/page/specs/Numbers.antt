use Rattle.std.specs.Prelude.{ℕ}
use Rattle.page.specs.declared.refusal.Refusal.{Refusal}
use Rattle.page.specs.declared.refusal.Refusal.TheVariants.{FrameCount, NoSuchPage, LostPage, WornPage, ClockFull, PageFull, NoFrame, NotGranted, PastPageEnd, NoPlace, PastLength}

-- The number of each refusal.
abbrev pub number_of : Refusal → ℕ
number_of FrameCount = 1
number_of NoSuchPage = 2
number_of (LostPage o) = 3
number_of (WornPage o) = 4
number_of ClockFull = 5
number_of PageFull = 6
number_of NoFrame = 7
number_of NotGranted = 8
number_of PastPageEnd = 9
number_of NoPlace = 10
number_of PastLength = 11
