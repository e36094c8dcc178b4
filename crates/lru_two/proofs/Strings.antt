-- A run of the policy over a reference string is the printed run over it.
use Rattle.std.proofs.Common.{◌≡◌, ℕ, ◌+◌, ◌≤◌, cond, List, [], ◌∷◌, ◌++◌, length, take, sym, refl, ap, ◌∙◌, subst}
use Rattle.std.proofs.lemmas.List.{length_push}
use Rattle.policy.specs.Runs.{turn, Course, start, refer, run, hit_by, hits, fetches, left_by, left, reach, DidRun, Standing}
use Rattle.policy.specs.declared.outcome.Outcome.{Outcome}
use Rattle.policy.proofs.Tallies.{left_push, hits_push, fetches_push, hit_of, fetch_of}
use Rattle.lru_two.specs.AsPrinted.{of_state, AsPrinted}
use Rattle.lru_two.specs.Model.{Model, empty}
use Rattle.lru_two.specs.Of.{lru_two}
use Rattle.lru_two.specs.Printed.{nothing, reference, Run, tallied, run_from, printed_run}
use Rattle.lru_two.proofs.References.{Did, refers}
use Rattle.lru_two.proofs.Sounds.{Sound, nothing-sound}

module _ (frames crp : ℕ) (least : 4 ≤ frames) (most : frames ≤ 64) where
  -- where a run of the policy and a printed run stand alike
  pub record Alike (c : Course Model) (r : Run) : Type 0 where
    pub blocks : c.model ≡ of_state frames crp r.state
    pub left : left c.outcomes ≡ r.left
    pub hits : hits c.outcomes ≡ r.hits
    pub fetches : fetches c.outcomes ≡ r.fetches
    pub sound : Sound frames (length c.outcomes) r.state
    pub standing : Standing lru_two c.model c.held

  alike-step : (c : Course Model) (r : Run) (x : ℕ) → Alike c r → Alike (refer lru_two c x) (tallied r (reference frames crp r.state (length c.outcomes + 1) x))
  alike-step c r x h =
      let n = length c.outcomes in
      let a = reference frames crp r.state (n + 1) x in
      let st = subst (λ (k : Model). Standing lru_two k c.held) h.blocks h.standing in
      let d : Did frames crp (n + 1) (turn lru_two c.model c.held x (n + 1)) a =
      subst (λ (k : Model). Did frames crp (n + 1) (turn lru_two k c.held x (n + 1)) a) (sym h.blocks) (refers frames crp n r.state c.held x h.sound least most st) in
      let o = (turn lru_two c.model c.held x (n + 1)).outcome in
      record {
        blocks = d.blocks;
        left = left_push c.outcomes o ∙ ap (λ (l : List ℕ). l ++ left_by o) h.left ∙ ap (λ (l : List ℕ). r.left ++ l) (ap left_by d.outcome ∙ d.left);
        hits = hits_push c.outcomes o ∙ ap (λ (k : ℕ). k + cond (hit_by o) 1 0) h.hits ∙ ap (λ (k : ℕ). r.hits + k) (ap (λ (w : Outcome). cond (hit_by w) 1 0) d.outcome ∙ hit_of a.fetched a.out);
        fetches = fetches_push c.outcomes o ∙ ap (λ (k : ℕ). k + cond (hit_by o) 0 1) h.fetches ∙ ap (λ (k : ℕ). r.fetches + k) (ap (λ (w : Outcome). cond (hit_by w) 0 1) d.outcome ∙ fetch_of a.fetched a.out);
        sound = subst (λ (k : ℕ). Sound frames k a.state) (sym (length_push c.outcomes o)) d.sound;
        standing = d.standing;
      }

  alike-run : (c : Course Model) (r : Run) (xs : List ℕ) → Alike c r → Alike (run lru_two c xs) (run_from frames crp (length c.outcomes + 1) r xs)
  alike-run c r [] h = h
  alike-run c r (x ∷ xs) h =
      let n = length c.outcomes in
      let next = refer lru_two c x in
      let o = (turn lru_two c.model c.held x (n + 1)).outcome in
      let r' = tallied r (reference frames crp r.state (n + 1) x) in
      subst (λ (k : ℕ). Alike (run lru_two next xs) (run_from frames crp (k + 1) r' xs)) (length_push c.outcomes o) (alike-run next r' xs (alike-step c r x h))

  pub alike : (xs : List ℕ) → Alike (run lru_two (start (empty frames crp)) xs) (printed_run frames crp xs)
  alike xs = alike-run (start (empty frames crp)) (record { state = nothing; left = []; hits = 0; fetches = 0 }) xs (record { blocks = refl; left = refl; hits = refl; fetches = refl; sound = nothing-sound frames; standing = record { resident = λ q. refl; size = refl } })

pub as_printed : (m : Model) (string : List ℕ) (old new : List Outcome) (h f : ℕ) (m' : Model) → 4 ≤ m.bound → m.bound ≤ 64 → DidRun lru_two m string old h f m' new → AsPrinted m string old h f m' new
as_printed m string old new h f m' l u d =
    let a = alike m.bound m.crp l u (take (reach string old) string) in
    record {
      blocks = d.model ∙ a.blocks;
      left = ap left d.outcomes ∙ a.left;
      hits = d.hits ∙ ap hits d.outcomes ∙ a.hits;
      fetches = d.fetches ∙ ap fetches d.outcomes ∙ a.fetches;
      rest = d.rest;
    }
