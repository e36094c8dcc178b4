-- What a run of the policy has to do with the printed algorithm.
use Rattle.std.specs.Prelude.{◌≡◌, ℕ, List, map, take, drop}
use Rattle.policy.specs.Runs.{left, reach}
use Rattle.policy.specs.declared.outcome.Outcome.{Outcome}
use Rattle.blocks.specs.declared.block.Block.{Block}
use Rattle.lru_two.specs.Model.{Model}
use Rattle.lru_two.specs.Printed.{State, printed_run}

-- The history block of a page, and the model whose blocks are those of the printed state.
abbrev pub block_of : State → ℕ → Block
block_of s p = record { page = p; hist1 = s.hist1 p; hist2 = s.hist2 p; last = s.last p }

abbrev pub of_state : ℕ → ℕ → State → Model
of_state frames crp s = record { bound = frames; crp = crp; blocks = map (block_of s) s.buffer; retained = map (block_of s) s.retained }

-- A run of a string, as far as it reaches, is the printed run with as many frames and the same CRP:
-- the blocks remembered after it, the pages that left, in order, and the h hits and f fetches that
-- were answered. `old` and `new` are the places for the outcomes before and after.
pub record AsPrinted (m : Model) (string : List ℕ) (old : List Outcome) (h f : ℕ) (m' : Model) (new : List Outcome) : Type 0 where
  pub blocks : m' ≡ of_state m.bound m.crp (printed_run m.bound m.crp (take (reach string old) string)).state
  pub left : left (take (reach string old) new) ≡ (printed_run m.bound m.crp (take (reach string old) string)).left
  pub hits : h ≡ (printed_run m.bound m.crp (take (reach string old) string)).hits
  pub fetches : f ≡ (printed_run m.bound m.crp (take (reach string old) string)).fetches
  pub rest : drop (reach string old) new ≡ drop (reach string old) old
