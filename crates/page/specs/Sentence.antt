use Rattle.std.specs.Prelude.{ℕ, List, [], ◌++◌, codes, decimal}
use Rattle.page.specs.declared.origin.Origin.{Origin}
use Rattle.page.specs.declared.refusal.Refusal.{Refusal}
use Rattle.page.specs.declared.refusal.Refusal.TheVariants.{FrameCount, NoSuchPage, LostPage, WornPage, ClockFull, PageFull, NoFrame, NotGranted, PastPageEnd, NoPlace, PastLength}
use Rattle.page.specs.declared.state.State.{State}
use Rattle.page.specs.declared.state.State.TheVariants.{Sound, Worn, Lost}
use Rattle.page.specs.Numbers.{number_of}

-- What each refusal says in words.
abbrev pub reason_of : Refusal → List ℕ
reason_of FrameCount = codes "a frame count is from 4 to 64"
reason_of NoSuchPage = codes "there is no such page"
reason_of (LostPage o) = codes "the page is lost and can be neither read nor written"
reason_of (WornPage o) = codes "the page is worn and can only be read"
reason_of ClockFull = codes "the clock of the pool is full"
reason_of PageFull = codes "the page has 255 grants out and can have no more"
reason_of NoFrame = codes "every frame holds a page with a grant out"
reason_of NotGranted = codes "no such grant of this pool is out"
reason_of PastPageEnd = codes "the bytes would reach past the end of the page"
reason_of NoPlace = codes "the list has no free place"
reason_of PastLength = codes "the place is not below the length of the list"

-- An origin in words.
abbrev pub origin_words : Origin → List ℕ
origin_words o = codes "origin page " ++ (decimal o.page ++ (codes ", depth " ++ decimal o.depth))

abbrev pub placed : Origin → List ℕ
placed o = codes " (" ++ (origin_words o ++ codes ")")

-- The origin, where the refusal has one.
abbrev pub origin_of : Refusal → List ℕ
origin_of FrameCount = []
origin_of NoSuchPage = []
origin_of (LostPage o) = placed o
origin_of (WornPage o) = placed o
origin_of ClockFull = []
origin_of PageFull = []
origin_of NoFrame = []
origin_of NotGranted = []
origin_of PastPageEnd = []
origin_of NoPlace = []
origin_of PastLength = []

-- The sentence that a refusal is printed as.
abbrev pub sentence : Refusal → List ℕ
sentence r = codes "refused " ++ (decimal (number_of r) ++ (codes ": " ++ (reason_of r ++ origin_of r)))

-- The word for a state.
abbrev pub word_of : State → List ℕ
word_of Sound = codes "sound"
word_of (Worn o) = codes "worn"
word_of (Lost o) = codes "lost"
