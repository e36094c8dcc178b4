-- Lives of a pool with its policy.
use Rattle.std.specs.Prelude.{◌≡◌, ℕ, ◌+◌, ◌*◌, List, [], ◌∷◌, ◌++◌, length}
use Rattle.policy.specs.Runs.{hits, fetches}
use Rattle.policy.specs.declared.outcome.Outcome.{Outcome}
use Rattle.policy.specs.declared.policy.Policy as policy
use Rattle.book.specs.Call.{Call, Answer}
use Rattle.book.specs.Counts.{is_fix, count}
use Rattle.book.specs.Life.{Sight, Step, Life}
use Rattle.turns.specs.Turns.{Course, Turned}

-- What is seen of a pool and of its policy.
pub record Scene (M : Type 0) : Type 0 where
  pub sight : Sight
  pub course : Course M

module _ {P : Type 0} (g : policy.Ghosts P) where
  -- One call: a step of the book's, and a turn of the policy's.
  pub record Doing (c : Scene g.Model) (call : Call) (a : Answer) (os : List Outcome) (d : Scene g.Model) : Type 0 where
    pub step : Step c.sight call a d.sight
    pub turned : Turned g c.sight.book c.course call os d.course

  -- A life: calls with their answers, and what its accepted fixes came to, in their order.
  pub data Lived : Scene g.Model → List Call → List Answer → List Outcome → Scene g.Model → Type 0 where
    start : {c : Scene g.Model} → Lived c [] [] [] c
    doing : {c d e : Scene g.Model} {call : Call} {a : Answer} {os : List Outcome} {calls : List Call} {rs : List Answer} {later : List Outcome} →
        Doing c call a os d → Lived d calls rs later e → Lived c (call ∷ calls) (a ∷ rs) (os ++ later) e

  -- The laws of lives, each accepted fix of which has so many outcomes: a life is one of the book's, and
  -- the hits and fetches counted are those of its outcomes, together as many as there were accepted fixes.
  pub record LivedLaws (per_fix : ℕ) : Type 0 where
    pub life : (c d : Scene g.Model) (calls : List Call) (rs : List Answer) (os : List Outcome) → Lived c calls rs os d → Life c.sight calls rs d.sight
    pub outcomes : (c d : Scene g.Model) (calls : List Call) (rs : List Answer) (os : List Outcome) → Lived c calls rs os d → length os ≡ per_fix * count is_fix c.sight.book calls
    pub hits : (c d : Scene g.Model) (calls : List Call) (rs : List Answer) (os : List Outcome) → Lived c calls rs os d → d.course.hits ≡ c.course.hits + hits os
    pub fetches : (c d : Scene g.Model) (calls : List Call) (rs : List Answer) (os : List Outcome) → Lived c calls rs os d → d.course.fetches ≡ c.course.fetches + fetches os
    pub sum : (c d : Scene g.Model) (calls : List Call) (rs : List Answer) (os : List Outcome) → Lived c calls rs os d → d.course.hits + d.course.fetches ≡ c.course.hits + c.course.fetches + count is_fix c.sight.book calls
