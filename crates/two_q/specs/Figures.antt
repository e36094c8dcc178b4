use Rattle.std.specs.Prelude.{◌≡◌, ℕ, List, [], ◌∷◌, Some, Err, Result, MatchResult}
use Rattle.page.specs.Numbers.{number_of}
use Rattle.page.specs.declared.refusal.Refusal.{Refusal}
use Rattle.page.specs.declared.refusal.Refusal.TheVariants as refusal
use Rattle.policy.specs.Frames.{InRange, OutOfRange}
use Rattle.policy.specs.declared.frames.FrameCount.{FrameCount}
use Rattle.two_q.specs.Model.{Model, touched, chosen, admitted}
use Rattle.two_q.specs.Printed.{Run, printed_run}
use Rattle.two_q.specs.AsPrinted.{of_queues}

abbrev pub ran : List ℕ → List ℕ → List ℕ → List ℕ → ℕ → ℕ → Run
ran am ain aout left hits fetches = record { queues = record { am = am; ain = ain; aout = aout }; left = left; hits = hits; fetches = fetches }

-- The policy after 1 2 3 4 5 1 6 3 2, once 1, 3 and 2 are asked for again and held.
abbrev pub holding : ℕ → Model
holding frames = touched (touched (touched (of_queues frames (printed_run frames (1 ∷ 2 ∷ 3 ∷ 4 ∷ 5 ∷ 1 ∷ 6 ∷ 3 ∷ 2 ∷ [])).queues) 1) 3) 2

-- Worked cases, with as many frames.
pub record Figures (frames : ℕ) : Type 0 where
  pub five : printed_run frames (1 ∷ 2 ∷ 3 ∷ 4 ∷ 5 ∷ []) ≡ ran [] (5 ∷ 4 ∷ 3 ∷ 2 ∷ []) (1 ∷ []) (1 ∷ []) 0 5
  pub then_1 : printed_run frames (1 ∷ 2 ∷ 3 ∷ 4 ∷ 5 ∷ 1 ∷ []) ≡ ran (1 ∷ []) (5 ∷ 4 ∷ 3 ∷ []) (2 ∷ []) (1 ∷ 2 ∷ []) 0 6
  pub then_6 : printed_run frames (1 ∷ 2 ∷ 3 ∷ 4 ∷ 5 ∷ 1 ∷ 6 ∷ []) ≡ ran (1 ∷ []) (6 ∷ 5 ∷ 4 ∷ []) (3 ∷ 2 ∷ []) (1 ∷ 2 ∷ 3 ∷ []) 0 7
  pub then_3 : printed_run frames (1 ∷ 2 ∷ 3 ∷ 4 ∷ 5 ∷ 1 ∷ 6 ∷ 3 ∷ []) ≡ ran (3 ∷ 1 ∷ []) (6 ∷ 5 ∷ []) (4 ∷ 2 ∷ []) (1 ∷ 2 ∷ 3 ∷ 4 ∷ []) 0 8
  pub then_2 : printed_run frames (1 ∷ 2 ∷ 3 ∷ 4 ∷ 5 ∷ 1 ∷ 6 ∷ 3 ∷ 2 ∷ []) ≡ ran (2 ∷ 3 ∷ 1 ∷ []) (6 ∷ []) (5 ∷ 4 ∷ []) (1 ∷ 2 ∷ 3 ∷ 4 ∷ 5 ∷ []) 0 9
  pub then_7 : printed_run frames (1 ∷ 2 ∷ 3 ∷ 4 ∷ 5 ∷ 1 ∷ 6 ∷ 3 ∷ 2 ∷ 7 ∷ []) ≡ ran (2 ∷ 3 ∷ []) (7 ∷ 6 ∷ []) (5 ∷ 4 ∷ []) (1 ∷ 2 ∷ 3 ∷ 4 ∷ 5 ∷ 1 ∷ []) 0 10
  -- a page of Am and one of A1in asked for again: two hits, and only Am is altered
  pub hit_again : printed_run frames (1 ∷ 2 ∷ 3 ∷ 4 ∷ 5 ∷ 1 ∷ 6 ∷ 3 ∷ 1 ∷ 6 ∷ []) ≡ ran (1 ∷ 3 ∷ []) (6 ∷ 5 ∷ []) (4 ∷ 2 ∷ []) (1 ∷ 2 ∷ 3 ∷ 4 ∷ []) 2 8
  -- with 1, 3 and 2 held only 6 is listed, and leaves for 7
  pub held_choice : chosen (holding frames) (6 ∷ []) ≡ Some 6
  pub held_7 : admitted (holding frames) 7 (Some 6) ≡ record { bound = frames; am = 2 ∷ 3 ∷ 1 ∷ []; a1in = 7 ∷ []; a1out = 6 ∷ 5 ∷ [] }
  -- 3 and 65 are no frame counts, and get refusal 1
  pub count_3 : (r : Result FrameCount Refusal) → MatchResult r (λ f. InRange 3 × (f.value ≡ 3)) (λ e. OutOfRange 3 × (e ≡ refusal.FrameCount)) → r ≡ Err refusal.FrameCount
  pub count_65 : (r : Result FrameCount Refusal) → MatchResult r (λ f. InRange 65 × (f.value ≡ 65)) (λ e. OutOfRange 65 × (e ≡ refusal.FrameCount)) → r ≡ Err refusal.FrameCount
  pub number_1 : number_of refusal.FrameCount ≡ 1
