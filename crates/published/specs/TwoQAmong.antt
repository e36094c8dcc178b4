-- Full 2Q where only some pages may leave: as the printed algorithm, but for the page that is paged
-- out, which is a free one.
use Rattle.std.specs.Prelude.{ℕ, ◌+◌, Bool, cond, List, [], ◌∷◌, length, Some, None, Option, nat_lt}
use Rattle.std.specs.Option.{option_or}
use Rattle.policy.specs.Sets.{member}
use Rattle.policy.specs.declared.outcome.Outcome.{Outcome}
use Rattle.policy.specs.declared.outcome.Outcome.TheVariants.{Hit, Fetch}
use Rattle.two_q.specs.Lists.{less}
use Rattle.two_q.specs.Printed.{Queues, Kin, remembered, Reclaimed, Accessed, found, onto_am, onto_ain, access, Run, tallied, empty}
use Rattle.published.specs.Fixings.{Fixing}

-- The free page nearest the tail of a queue, or none.
abbrev pub nearest : (ℕ → Bool) → List ℕ → Option ℕ
nearest free [] = None
nearest free (x ∷ xs) = option_or (nearest free xs) (cond (free x) (Some x) None)

-- No page is paged out.
abbrev pub none : Queues → Reclaimed
none q = record { queues = q; out = None }

-- Y is paged out of Ain, and its identifier goes to Aout.
abbrev pub off_ain : ℕ → Queues → ℕ → Reclaimed
off_ain slots q y = record { queues = record { am = q.am; ain = less y q.ain; aout = remembered slots (Some y) q.aout }; out = Some y }

-- Y is paged out of Am, and is not put on Aout.
abbrev pub off_am : Queues → ℕ → Reclaimed
off_am q y = record { queues = record { am = less y q.am; ain = q.ain; aout = q.aout }; out = Some y }

-- What is done with a page, if there is one, or else.
abbrev pub with : Option ℕ → (ℕ → Reclaimed) → Reclaimed → Reclaimed
with None f else = else
with (Some y) f else = f y

-- A slot is reclaimed: the free page nearest the tail of the preferred queue is paged out or, if that
-- has none, of the other. If no page is free, none is paged out; that does not arise where a fix is
-- accepted.
abbrev pub reclaim_among : ℕ → (ℕ → Bool) → Queues → Reclaimed
reclaim_among slots free q =
    -- if there are free page slots, X has one
    cond (nat_lt (length q.am + length q.ain) slots)
    (none q)
    -- else if |Ain| > Kin, Ain is preferred
    (cond (nat_lt (Kin slots) (length q.ain))
    (with (nearest free q.ain) (off_ain slots q) (with (nearest free q.am) (off_am q) (none q)))
    -- else Am is preferred
    (with (nearest free q.am) (off_am q) (with (nearest free q.ain) (off_ain slots q) (none q))))

-- On fixing a page X: as on accessing it.
abbrev pub access_among : ℕ → Queues → Fixing → Accessed
access_among slots q f =
    cond (member f.page q.am)
    (found (record { am = f.page ∷ less f.page q.am; ain = q.ain; aout = q.aout }))
    (cond (member f.page q.aout)
    (onto_am f.page (reclaim_among slots f.free (record { am = q.am; ain = q.ain; aout = less f.page q.aout })))
    (cond (member f.page q.ain)
    (found q)
    (onto_ain f.page (reclaim_among slots f.free q))))

-- A run over accepted fixes, from where a run stands and from the opening.
abbrev pub run_among : ℕ → Run → List Fixing → Run
run_among slots r [] = r
run_among slots r (f ∷ fs) = run_among slots (tallied r (access_among slots r.queues f)) fs

abbrev pub published_run : ℕ → List Fixing → Run
published_run slots fs = run_among slots (record { queues = empty; left = []; hits = 0; fetches = 0 }) fs

-- What an access came to; and what each of a list came to, in order, by what one does to the queues.
abbrev pub came_to : Accessed → Outcome
came_to a = cond a.fetched (Fetch a.out) Hit

abbrev pub outcomes : {X : Type 0} → (Queues → X → Accessed) → Queues → List X → List Outcome
outcomes does q [] = []
outcomes does q (x ∷ xs) = came_to (does q x) ∷ outcomes does (does q x).queues xs

-- What each fix comes to, and what each reference of a string comes to in the printed algorithm.
abbrev pub published_outcomes : ℕ → List Fixing → List Outcome
published_outcomes slots fs = outcomes (access_among slots) empty fs

abbrev pub printed_outcomes : ℕ → List ℕ → List Outcome
printed_outcomes slots string = outcomes (access slots) empty string
