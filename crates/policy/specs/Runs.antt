-- Runs of reference strings: each page is asked for and let go at once, so that at every choice all
-- resident pages are listed.
use Rattle.std.specs.Prelude.{◌≡◌, ℕ, ◌+◌, min, Bool, true, false, cond, List, [], ◌∷◌, ◌++◌, map, length, take, drop, Some, None, Option, ◌==◌, nat_lt}
use Rattle.policy.specs.Sets.{member}
use Rattle.policy.specs.declared.outcome.Outcome.{Outcome}
use Rattle.policy.specs.declared.outcome.Outcome.TheVariants.{Hit, Fetch}
use Rattle.policy.specs.declared.policy.Policy as policy

-- The pages in the frames, once a page has come: into the frame of the leaving page, or a free one.
abbrev pub instead : ℕ → ℕ → ℕ → ℕ
instead gone page x = cond (x == gone) page x

abbrev pub replaced : ℕ → ℕ → List ℕ → List ℕ
replaced gone page held = map (instead gone page) held

abbrev pub swapped : List ℕ → ℕ → Option ℕ → List ℕ
swapped held page None = held ++ page ∷ []
swapped held page (Some gone) = replaced gone page held

-- What one reference leaves, and what it came to.
pub record Turn (M : Type 0) : Type 0 where
  pub model : M
  pub held : List ℕ
  pub outcome : Outcome

module _ {P : Type 0} (g : policy.Ghosts P) where
  -- The page that has to leave at a time: none while a frame is free, else the policy's choice.
  abbrev pub leaving : g.Model → List ℕ → ℕ → Option ℕ
  leaving m held t = cond (nat_lt (length held) (g.bound m)) None (g.chosen m held t)

  -- One reference to a page at a time: a hit, or an admission in the place of the leaving page.
  abbrev pub turn : g.Model → List ℕ → ℕ → ℕ → Turn g.Model
  turn m held page t =
      cond (g.resident m page)
      (record { model = g.touched m page t; held = held; outcome = Hit })
      (record { model = g.admitted m page (leaving m held t) t; held = swapped held page (leaving m held t); outcome = Fetch (leaving m held t) })

-- Where a run stands: what the policy remembers, the pages in the frames, and what each reference so
-- far came to.
pub record Course (M : Type 0) : Type 0 where
  pub model : M
  pub held : List ℕ
  pub outcomes : List Outcome

abbrev pub start : {M : Type 0} → M → Course M
start m = record { model = m; held = []; outcomes = [] }

abbrev pub onward : {M : Type 0} → List Outcome → Turn M → Course M
onward os u = record { model = u.model; held = u.held; outcomes = os ++ u.outcome ∷ [] }

module _ {P : Type 0} (g : policy.Ghosts P) where
  -- The next reference; its time is its number, from 1.
  abbrev pub refer : Course g.Model → ℕ → Course g.Model
  refer s page = onward s.outcomes (turn g s.model s.held page (length s.outcomes + 1))

  abbrev pub run : Course g.Model → List ℕ → Course g.Model
  run s [] = s
  run s (page ∷ pages) = run (refer s page) pages

-- What is read off the outcomes: how many references were hits, how many fetches, and which pages
-- left, in order.
abbrev pub hit_by : Outcome → Bool
hit_by Hit = true
hit_by (Fetch out) = false

abbrev pub hits : List Outcome → ℕ
hits [] = 0
hits (o ∷ os) = cond (hit_by o) 1 0 + hits os

abbrev pub fetches : List Outcome → ℕ
fetches [] = 0
fetches (o ∷ os) = cond (hit_by o) 0 1 + fetches os

abbrev pub left_by : Outcome → List ℕ
left_by Hit = []
left_by (Fetch None) = []
left_by (Fetch (Some page)) = page ∷ []

abbrev pub left : List Outcome → List ℕ
left [] = []
left (o ∷ os) = left_by o ++ left os

-- How much of a string is run: no more references than there are places for outcomes, nor than times.
abbrev pub reach : List ℕ → List Outcome → ℕ
reach string places = min (min (length string) (length places)) 4294967295

-- A run of a string from an emptied policy did what the references do one by one, and answered h hits
-- and f fetches; `old` and `new` are the places for the outcomes before and after.
pub record DidRun {P : Type 0} (g : policy.Ghosts P) (m : g.Model) (string : List ℕ) (old : List Outcome) (h f : ℕ) (m' : g.Model) (new : List Outcome) : Type 0 where
  pub model : m' ≡ (run g (start (g.emptied m)) (take (reach string old) string)).model
  pub outcomes : take (reach string old) new ≡ (run g (start (g.emptied m)) (take (reach string old) string)).outcomes
  pub rest : drop (reach string old) new ≡ drop (reach string old) old
  pub hits : h ≡ hits (take (reach string old) new)
  pub fetches : f ≡ fetches (take (reach string old) new)

-- The pages in the frames are the resident ones.
pub record Standing {P : Type 0} (g : policy.Ghosts P) (m : g.Model) (held : List ℕ) : Type 0 where
  pub resident : (q : ℕ) → g.resident m q ≡ member q held
  pub size : g.size m ≡ length held
