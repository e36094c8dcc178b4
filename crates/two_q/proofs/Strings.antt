-- A run of the policy over a reference string is the printed run over it.
use Rattle.std.proofs.Common.{◌≡◌, ℕ, ◌+◌, ◌≤◌, cond, List, [], ◌∷◌, ◌++◌, length, take, sym, refl, ap, ◌∙◌, subst}
use Rattle.policy.specs.Runs.{turn, Course, start, refer, run, hit_by, hits, fetches, left_by, left, reach, DidRun, Standing}
use Rattle.policy.specs.declared.outcome.Outcome.{Outcome}
use Rattle.policy.proofs.Tallies.{left_push, hits_push, fetches_push, hit_of, fetch_of}
use Rattle.two_q.specs.AsPrinted.{of_queues, AsPrinted}
use Rattle.two_q.specs.Model.{Model, empty}
use Rattle.two_q.specs.Of.{two_q}
use Rattle.two_q.specs.Printed.{access, Run, tallied, run_from, printed_run}
use Rattle.two_q.proofs.Accesses.{Did, accesses}
use Rattle.two_q.proofs.Sounds.{Sound, empty-sound}

-- where a run of the policy and a printed run stand alike
pub record Alike (slots : ℕ) (c : Course Model) (r : Run) : Type 0 where
  pub lists : c.model ≡ of_queues slots r.queues
  pub left : left c.outcomes ≡ r.left
  pub hits : hits c.outcomes ≡ r.hits
  pub fetches : fetches c.outcomes ≡ r.fetches
  pub sound : Sound c.model
  pub standing : Standing two_q c.model c.held

alike-step : (slots : ℕ) (c : Course Model) (r : Run) (x : ℕ) → Alike slots c r → Alike slots (refer two_q c x) (tallied r (access slots r.queues x))
alike-step slots c r x h =
    let a = access slots r.queues x in
    let t = length c.outcomes + 1 in
    let sn = subst Sound h.lists h.sound in
    let st = subst (λ (n : Model). Standing two_q n c.held) h.lists h.standing in
    let d : Did slots (turn two_q c.model c.held x t) a = subst (λ (n : Model). Did slots (turn two_q n c.held x t) a) (sym h.lists) (accesses slots r.queues c.held x t sn st) in
    let o = (turn two_q c.model c.held x t).outcome in
    record {
      lists = d.lists;
      left = left_push c.outcomes o ∙ ap (λ (l : List ℕ). l ++ left_by o) h.left ∙ ap (λ (l : List ℕ). r.left ++ l) (ap left_by d.outcome ∙ d.left);
      hits = hits_push c.outcomes o ∙ ap (λ (n : ℕ). n + cond (hit_by o) 1 0) h.hits ∙ ap (λ (n : ℕ). r.hits + n) (ap (λ (w : Outcome). cond (hit_by w) 1 0) d.outcome ∙ hit_of a.fetched a.out);
      fetches = fetches_push c.outcomes o ∙ ap (λ (n : ℕ). n + cond (hit_by o) 0 1) h.fetches ∙ ap (λ (n : ℕ). r.fetches + n) (ap (λ (w : Outcome). cond (hit_by w) 0 1) d.outcome ∙ fetch_of a.fetched a.out);
      sound = d.sound;
      standing = d.standing;
    }

alike-run : (slots : ℕ) (c : Course Model) (r : Run) (xs : List ℕ) → Alike slots c r → Alike slots (run two_q c xs) (run_from slots r xs)
alike-run slots c r [] h = h
alike-run slots c r (x ∷ xs) h = alike-run slots (refer two_q c x) (tallied r (access slots r.queues x)) xs (alike-step slots c r x h)

pub alike : (slots : ℕ) (xs : List ℕ) → 4 ≤ slots → slots ≤ 64 → Alike slots (run two_q (start (empty slots)) xs) (printed_run slots xs)
alike slots xs l h = alike-run slots (start (empty slots)) _ xs (record { lists = refl; left = refl; hits = refl; fetches = refl; sound = empty-sound slots l h; standing = record { resident = λ q. refl; size = refl } })

pub as_printed : (m : Model) (string : List ℕ) (old new : List Outcome) (h f : ℕ) (m' : Model) → 4 ≤ m.bound → m.bound ≤ 64 → DidRun two_q m string old h f m' new → AsPrinted m string old h f m' new
as_printed m string old new h f m' l u d =
    let a = alike m.bound (take (reach string old) string) l u in
    record {
      lists = d.model ∙ a.lists;
      left = ap left d.outcomes ∙ a.left;
      hits = d.hits ∙ ap hits d.outcomes ∙ a.hits;
      fetches = d.fetches ∙ ap fetches d.outcomes ∙ a.fetches;
      rest = d.rest;
    }
