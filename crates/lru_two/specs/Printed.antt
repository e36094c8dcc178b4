-- LRU-K as O'Neil, O'Neil and Weikum (1993) print it, with K = 2, to be read beside their text:
-- what a reference to a page p at a time t does. HIST(p,1) and HIST(p,2) are the times of the last
-- two uncorrelated references to p, and LAST(p) is the time of the last reference of any kind. What
-- we had to add is marked "ours".
use Rattle.std.specs.Prelude.{ℕ, ◌+◌, ◌-◌, ◌/◌, Bool, true, false, cond, List, [], ◌∷◌, ◌++◌, length, take, Some, None, Option, ◌==◌, nat_lt}
use Rattle.recency.specs.Recent.{less}
use Rattle.policy.specs.Sets.{member}

pub record State : Type 0 where
  -- the pages in the buffer
  pub buffer : List ℕ
  -- HIST(p,1), HIST(p,2) and LAST(p)
  pub hist1 : ℕ → ℕ
  pub hist2 : ℕ → ℕ
  pub last : ℕ → ℕ
  -- the pages out of the buffer for which HIST exists (ours: as a list, from the one that left last)
  pub retained : List ℕ

-- HIST(p,i) = v, or LAST(p) = v
abbrev pub assign : (ℕ → ℕ) → ℕ → ℕ → ℕ → ℕ
assign f p v q = cond (q == p) v (f q)

-- t - LAST(p) > CRP (ours: where t is below LAST(p), the difference is 0)
abbrev pub uncorrelated : ℕ → State → ℕ → ℕ → Bool
uncorrelated crp s t p = nat_lt crp (t - s.last p)

-- close the correlated period and start new: move HIST(p,1) into HIST(p,2), HIST(p,1) = t
abbrev pub restarted : State → ℕ → ℕ → State
restarted s t p = record { buffer = s.buffer; hist1 = assign s.hist1 p t; hist2 = assign s.hist2 p (s.hist1 p); last = s.last; retained = s.retained }

-- LAST(p) = t
abbrev pub stamped : State → ℕ → ℕ → State
stamped s t p = record { buffer = s.buffer; hist1 = s.hist1; hist2 = s.hist2; last = assign s.last p t; retained = s.retained }

-- p is in the buffer: update the history of p
abbrev pub updated : ℕ → State → ℕ → ℕ → State
updated crp s t p = stamped (cond (uncorrelated crp s t p) (restarted s t p) s) t p

-- min is t at first, and then HIST(victim,2)
abbrev pub min : State → ℕ → Option ℕ → ℕ
min s t None = t
min s t (Some victim) = s.hist2 victim

-- ours: where HIST(q,2) = min, the page with the lesser LAST, then the lesser number, is the victim
abbrev pub tie : State → ℕ → Option ℕ → Bool
tie s q None = false
tie s q (Some victim) =
    cond (s.hist2 q == s.hist2 victim)
    (cond (s.last q == s.last victim) (nat_lt q victim) (nat_lt (s.last q) (s.last victim)))
    false

-- for all pages q in the buffer: if q is eligible and HIST(q,2) < min, victim = q, min = HIST(q,2)
abbrev pub scan : State → ℕ → (ℕ → Bool) → Option ℕ → List ℕ → Option ℕ
scan s t eligible victim [] = victim
scan s t eligible victim (q ∷ qs) =
    scan s t eligible (cond (eligible q) (cond (nat_lt (s.hist2 q) (min s t victim)) (Some q) (cond (tie s q victim) (Some q) victim)) victim) qs

abbrev pub either : Option ℕ → Option ℕ → Option ℕ
either None o = o
either (Some q) o = Some q

-- select the replacement victim: q is eligible if t - LAST(q) > CRP (ours: if no page is, all are)
abbrev pub victim : ℕ → State → ℕ → Option ℕ
victim crp s t = either (scan s t (uncorrelated crp s t) None s.buffer) (scan s t (λ q. true) None s.buffer)

-- ours: while a frame is free, no page is dropped
abbrev pub dropped : ℕ → ℕ → State → ℕ → Option ℕ
dropped frames crp s t = cond (nat_lt (length s.buffer) frames) None (victim crp s t)

-- a list of pages without one of them
abbrev pub without : ℕ → List ℕ → List ℕ
without p qs = less (λ (q : ℕ). q) p qs

abbrev pub emptied : Option ℕ → List ℕ → List ℕ
emptied None qs = qs
emptied (Some v) qs = without v qs

-- ours: HIST is kept for as many pages out of the buffer as half the frames, those that left last
abbrev pub remember : ℕ → Option ℕ → List ℕ → List ℕ
remember frames None qs = qs
remember frames (Some v) qs = take (frames / 2) (v ∷ qs)

-- fetch p into the victim's buffer; if no HIST(p) exists, HIST(p,2) = 0, else HIST(p,2) = HIST(p,1);
-- HIST(p,1) = t; LAST(p) = t
abbrev pub fetched : ℕ → State → ℕ → ℕ → Option ℕ → State
fetched frames s t p out = record {
  buffer = p ∷ emptied out s.buffer;
  hist1 = assign s.hist1 p t;
  hist2 = assign s.hist2 p (cond (member p s.retained) (s.hist1 p) 0);
  last = assign s.last p t;
  retained = remember frames out (without p s.retained);
}

-- What a reference came to: the state, whether p had to be fetched, and the page dropped for it.
pub record Referred : Type 0 where
  pub state : State
  pub fetched : Bool
  pub out : Option ℕ

abbrev pub hit : State → Referred
hit s = record { state = s; fetched = false; out = None }

abbrev pub miss : ℕ → State → ℕ → ℕ → Option ℕ → Referred
miss frames s t p out = record { state = fetched frames s t p out; fetched = true; out = out }

-- a reference to p: if p is in the buffer its history is updated, else a victim is dropped and p is
-- fetched
abbrev pub reference : ℕ → ℕ → State → ℕ → ℕ → Referred
reference frames crp s t p = cond (member p s.buffer) (hit (updated crp s t p)) (miss frames s t p (dropped frames crp s t))

-- A run of a reference string, the time of each reference being its number, from 1: the state, the
-- pages dropped, in order, and how many of the references found their page and how many fetched it.
pub record Run : Type 0 where
  pub state : State
  pub left : List ℕ
  pub hits : ℕ
  pub fetches : ℕ

abbrev pub listed : Option ℕ → List ℕ
listed None = []
listed (Some q) = q ∷ []

abbrev pub tallied : Run → Referred → Run
tallied r a = record {
  state = a.state;
  left = r.left ++ listed a.out;
  hits = r.hits + cond a.fetched 0 1;
  fetches = r.fetches + cond a.fetched 1 0;
}

abbrev pub run_from : ℕ → ℕ → ℕ → Run → List ℕ → Run
run_from frames crp t r [] = r
run_from frames crp t r (p ∷ ps) = run_from frames crp (t + 1) (tallied r (reference frames crp r.state t p)) ps

abbrev pub nothing : State
nothing = record { buffer = []; hist1 = λ p. 0; hist2 = λ p. 0; last = λ p. 0; retained = [] }

abbrev pub printed_run : ℕ → ℕ → List ℕ → Run
printed_run frames crp string = run_from frames crp 1 (record { state = nothing; left = []; hits = 0; fetches = 0 }) string
