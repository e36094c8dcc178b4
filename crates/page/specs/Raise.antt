use Rattle.std.specs.Prelude.{◌+◌, min, Some, None, Option, Ok, Err, Result}
use Rattle.page.specs.declared.origin.Origin.{Origin}
use Rattle.page.specs.declared.state.State.{State}
use Rattle.page.specs.declared.state.State.TheVariants.{Sound, Worn, Lost}
use Rattle.page.specs.declared.refusal.Refusal.{Refusal}
use Rattle.page.specs.declared.refusal.Refusal.TheVariants.{FrameCount, NoSuchPage, LostPage, WornPage, ClockFull, PageFull, NoFrame, NotGranted, PastPageEnd, NoPlace, PastLength}

-- What a layer makes of what it hears from below: the origin's page is carried up, and the depth is
-- one greater, up to 255.
abbrev pub raised : Origin → Origin
raised o = record { page = o.page; depth = min (o.depth + 1) 255 }

-- The origin of a state, if it has one.
abbrev pub origin_in : State → Option Origin
origin_in Sound = None
origin_in (Worn o) = Some o
origin_in (Lost o) = Some o

abbrev pub raised_state : State → State
raised_state Sound = Sound
raised_state (Worn o) = Worn (raised o)
raised_state (Lost o) = Lost (raised o)

abbrev pub raised_refusal : Refusal → Refusal
raised_refusal FrameCount = FrameCount
raised_refusal NoSuchPage = NoSuchPage
raised_refusal (LostPage o) = LostPage (raised o)
raised_refusal (WornPage o) = WornPage (raised o)
raised_refusal ClockFull = ClockFull
raised_refusal PageFull = PageFull
raised_refusal NoFrame = NoFrame
raised_refusal NotGranted = NotGranted
raised_refusal PastPageEnd = PastPageEnd
raised_refusal NoPlace = NoPlace
raised_refusal PastLength = PastLength

abbrev pub raised_result : {T : Type 0} → Result T Refusal → Result T Refusal
raised_result (Ok x) = Ok x
raised_result (Err e) = Err (raised_refusal e)
