-- LRU-2 where only some pages may leave: as the printed algorithm, but for the victim, which is a free
-- page.
use Rattle.std.specs.Prelude.{ℕ, ◌+◌, Bool, false, cond, List, [], ◌∷◌, length, None, Option, nat_lt}
use Rattle.policy.specs.Sets.{member}
use Rattle.policy.specs.declared.outcome.Outcome.{Outcome}
use Rattle.policy.specs.declared.outcome.Outcome.TheVariants.{Hit, Fetch}
use Rattle.lru_two.specs.Printed.{State, uncorrelated, updated, scan, either, Referred, hit, miss, reference, Run, tallied, nothing}
use Rattle.published.specs.Fixings.{Fixing}

-- Select the replacement victim: q is eligible if it is free and t - LAST(q) > CRP; if no page is, all
-- free ones are. If no page is free there is none; that does not arise where a fix is accepted.
abbrev pub victim_among : ℕ → (ℕ → Bool) → State → ℕ → Option ℕ
victim_among crp free s t = either (scan s t (λ q. cond (free q) (uncorrelated crp s t q) false) None s.buffer) (scan s t free None s.buffer)

-- While a frame is free, no page is dropped.
abbrev pub dropped_among : ℕ → ℕ → (ℕ → Bool) → State → ℕ → Option ℕ
dropped_among frames crp free s t = cond (nat_lt (length s.buffer) frames) None (victim_among crp free s t)

-- The fix of a page at a time: as a reference to it.
abbrev pub reference_among : ℕ → ℕ → State → ℕ → Fixing → Referred
reference_among frames crp s t f = cond (member f.page s.buffer) (hit (updated crp s t f.page)) (miss frames s t f.page (dropped_among frames crp f.free s t))

-- A run over accepted fixes, the first at the time t and each at one later: from where a run stands,
-- and from the opening.
abbrev pub run_among : ℕ → ℕ → ℕ → Run → List Fixing → Run
run_among frames crp t r [] = r
run_among frames crp t r (f ∷ fs) = run_among frames crp (t + 1) (tallied r (reference_among frames crp r.state t f)) fs

abbrev pub published_run : ℕ → ℕ → ℕ → List Fixing → Run
published_run frames crp t fs = run_among frames crp t (record { state = nothing; left = []; hits = 0; fetches = 0 }) fs

-- What a reference came to; and what each of a list came to, in order, by what one does to the state
-- at its time.
abbrev pub came_to : Referred → Outcome
came_to a = cond a.fetched (Fetch a.out) Hit

abbrev pub outcomes : {X : Type 0} → (State → ℕ → X → Referred) → ℕ → State → List X → List Outcome
outcomes does t s [] = []
outcomes does t s (x ∷ xs) = came_to (does s t x) ∷ outcomes does (t + 1) (does s t x).state xs

-- What each fix comes to, and what each reference of a string comes to in the printed algorithm.
abbrev pub published_outcomes : ℕ → ℕ → ℕ → List Fixing → List Outcome
published_outcomes frames crp t fs = outcomes (reference_among frames crp) t nothing fs

abbrev pub printed_outcomes : ℕ → ℕ → List ℕ → List Outcome
printed_outcomes frames crp string = outcomes (reference frames crp) 1 nothing string
