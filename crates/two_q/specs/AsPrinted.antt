-- What a run of the policy has to do with the printed algorithm.
use Rattle.std.specs.Prelude.{◌≡◌, ℕ, List, take, drop}
use Rattle.policy.specs.Runs.{left, reach}
use Rattle.policy.specs.declared.outcome.Outcome.{Outcome}
use Rattle.two_q.specs.Model.{Model}
use Rattle.two_q.specs.Printed.{Queues, printed_run}

-- The model whose lists are the printed queues.
abbrev pub of_queues : ℕ → Queues → Model
of_queues slots q = record { bound = slots; am = q.am; a1in = q.ain; a1out = q.aout }

-- A run of a string, as far as it reaches, is the printed run with as many page slots as the policy
-- has frames: the three lists after it, the pages that left, in order, and the h hits and f fetches
-- that were answered. `old` and `new` are the places for the outcomes before and after.
pub record AsPrinted (m : Model) (string : List ℕ) (old : List Outcome) (h f : ℕ) (m' : Model) (new : List Outcome) : Type 0 where
  pub lists : m' ≡ of_queues m.bound (printed_run m.bound (take (reach string old) string)).queues
  pub left : left (take (reach string old) new) ≡ (printed_run m.bound (take (reach string old) string)).left
  pub hits : h ≡ (printed_run m.bound (take (reach string old) string)).hits
  pub fetches : f ≡ (printed_run m.bound (take (reach string old) string)).fetches
  pub rest : drop (reach string old) new ≡ drop (reach string old) old
