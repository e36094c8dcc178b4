use Rattle.std.specs.Prelude.{◌≡◌, ℕ, List, [], ◌∷◌, Some, None}
use Rattle.blocks.specs.declared.block.Block.{Block}
use Rattle.lru_two.specs.Model.{Model, chosen, touched}
use Rattle.lru_two.specs.AsPrinted.{block_of, of_state}
use Rattle.lru_two.specs.Printed.{printed_run}

abbrev pub b : ℕ → ℕ → ℕ → ℕ → Block
b page hist1 hist2 last = record { page = page; hist1 = hist1; hist2 = hist2; last = last }

-- The model after a run.
abbrev pub after : ℕ → ℕ → List ℕ → Model
after frames crp string = of_state frames crp (printed_run frames crp string).state

-- Worked cases, with as many frames.
pub record Figures (frames : ℕ) : Type 0 where
  -- CRP 0
  pub six : (printed_run frames 0 (1 ∷ 2 ∷ 3 ∷ 4 ∷ 1 ∷ 5 ∷ [])).left ≡ 2 ∷ []
  pub six_counts : ((printed_run frames 0 (1 ∷ 2 ∷ 3 ∷ 4 ∷ 1 ∷ 5 ∷ [])).hits ≡ 1) × ((printed_run frames 0 (1 ∷ 2 ∷ 3 ∷ 4 ∷ 1 ∷ 5 ∷ [])).fetches ≡ 5)
  pub six_blocks : after frames 0 (1 ∷ 2 ∷ 3 ∷ 4 ∷ 1 ∷ 5 ∷ []) ≡ record { bound = frames; crp = 0; blocks = b 5 6 0 6 ∷ b 4 4 0 4 ∷ b 3 3 0 3 ∷ b 1 5 1 5 ∷ []; retained = b 2 2 0 2 ∷ [] }
  -- then 2: its retained block gives HIST2
  pub then_2 : (printed_run frames 0 (1 ∷ 2 ∷ 3 ∷ 4 ∷ 1 ∷ 5 ∷ 2 ∷ [])).left ≡ 2 ∷ 3 ∷ []
  pub then_2_block : block_of (printed_run frames 0 (1 ∷ 2 ∷ 3 ∷ 4 ∷ 1 ∷ 5 ∷ 2 ∷ [])).state 2 ≡ b 2 7 2 7
  pub then_2_blocks : after frames 0 (1 ∷ 2 ∷ 3 ∷ 4 ∷ 1 ∷ 5 ∷ 2 ∷ []) ≡ record { bound = frames; crp = 0; blocks = b 2 7 2 7 ∷ b 5 6 0 6 ∷ b 4 4 0 4 ∷ b 1 5 1 5 ∷ []; retained = b 3 3 0 3 ∷ [] }
  -- CRP 10: no page is outside its period, so that all are eligible
  pub near : (printed_run frames 10 (1 ∷ 2 ∷ 3 ∷ 4 ∷ 5 ∷ [])).left ≡ 1 ∷ []
  pub near_blocks : after frames 10 (1 ∷ 2 ∷ 3 ∷ 4 ∷ 5 ∷ []) ≡ record { bound = frames; crp = 10; blocks = b 5 5 0 5 ∷ b 4 4 0 4 ∷ b 3 3 0 3 ∷ b 2 2 0 2 ∷ []; retained = b 1 1 0 1 ∷ [] }
  -- a hit within the period sets LAST alone, and one outside moves HIST1 into HIST2
  pub within : (touched (after frames 10 (1 ∷ [])) 1 11).blocks ≡ b 1 1 0 11 ∷ []
  pub outside : (touched (after frames 10 (1 ∷ [])) 1 12).blocks ≡ b 1 12 1 12 ∷ []
  -- only listed pages are chosen, and a time below LAST counts as no time passed
  pub listed : chosen (after frames 0 (1 ∷ 2 ∷ 3 ∷ 4 ∷ 1 ∷ 5 ∷ [])) (5 ∷ 1 ∷ 9 ∷ []) 7 ≡ Some 5
  pub unlisted : chosen (after frames 0 (1 ∷ 2 ∷ 3 ∷ [])) (4 ∷ []) 4 ≡ None
  pub past : chosen (after frames 0 (1 ∷ 2 ∷ 3 ∷ [])) (3 ∷ 2 ∷ []) 0 ≡ Some 2
  -- two blocks are retained, from the one that left last
  pub two_kept : (after frames 0 (1 ∷ 2 ∷ 3 ∷ 4 ∷ 5 ∷ 6 ∷ 7 ∷ [])).retained ≡ b 3 3 0 3 ∷ b 2 2 0 2 ∷ []
