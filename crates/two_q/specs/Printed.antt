-- Full 2Q as Johnson and Shasha (1994) print it, to be read beside their text: three queues of pages,
-- and what accessing a page X does to them. The pages of Am and Ain have a page slot each; Aout has
-- identifiers only. A queue runs from its head to its tail. What we had to add is marked "ours".
use Rattle.std.specs.Prelude.{ℕ, ◌+◌, ◌/◌, Bool, true, false, cond, List, [], ◌∷◌, ◌++◌, length, Some, None, Option, nat_lt}
use Rattle.policy.specs.Sets.{member}
use Rattle.two_q.specs.Lists.{less}

pub record Queues : Type 0 where
  pub am : List ℕ
  pub ain : List ℕ
  pub aout : List ℕ

-- Kin is a quarter of the page slots, and Kout half of them. Ours: the whole parts.
abbrev pub Kin : ℕ → ℕ
Kin slots = slots / 4

abbrev pub Kout : ℕ → ℕ
Kout slots = slots / 2

-- The page at the tail of a queue, and the queue without it. Ours: an empty queue has none; with four
-- slots or more the tail of an empty queue is never asked for.
abbrev pub tail_of : List ℕ → Option ℕ
tail_of [] = None
tail_of (x ∷ []) = Some x
tail_of (x ∷ y ∷ ys) = tail_of (y ∷ ys)

abbrev pub untailed : List ℕ → List ℕ
untailed [] = []
untailed (x ∷ []) = []
untailed (x ∷ y ∷ ys) = x ∷ untailed (y ∷ ys)

abbrev pub put : Option ℕ → List ℕ → List ℕ
put None xs = xs
put (Some x) xs = x ∷ xs

-- Aout with Y at its head; if it then holds more than Kout, the identifier at its tail is removed.
abbrev pub cut : ℕ → List ℕ → List ℕ
cut most xs = cond (nat_lt most (length xs)) (untailed xs) xs

abbrev pub remembered : ℕ → Option ℕ → List ℕ → List ℕ
remembered slots y aout = cut (Kout slots) (put y aout)

-- The queues once there is a slot for X, and the page Y that was paged out for it, if any.
pub record Reclaimed : Type 0 where
  pub queues : Queues
  pub out : Option ℕ

-- reclaimfor(page X)
abbrev pub reclaimfor : ℕ → Queues → Reclaimed
reclaimfor slots q =
    -- if there are free page slots, X has one
    cond (nat_lt (length q.am + length q.ain) slots)
    (record { queues = q; out = None })
    -- else if |Ain| > Kin, the tail of Ain, Y, is paged out and its identifier goes to Aout
    (cond (nat_lt (Kin slots) (length q.ain))
    (record { queues = record { am = q.am; ain = untailed q.ain; aout = remembered slots (tail_of q.ain) q.aout }; out = tail_of q.ain })
    -- else the tail of Am, Y, is paged out, and is not put on Aout
    (record { queues = record { am = untailed q.am; ain = q.ain; aout = q.aout }; out = tail_of q.am }))

-- What an access came to: the queues, whether X had to be fetched, and the page paged out for it.
pub record Accessed : Type 0 where
  pub queues : Queues
  pub fetched : Bool
  pub out : Option ℕ

abbrev pub found : Queues → Accessed
found q = record { queues = q; fetched = false; out = None }

-- X is added to the head of Am, or to the head of Ain, in the slot that was reclaimed.
abbrev pub onto_am : ℕ → Reclaimed → Accessed
onto_am x r = record { queues = record { am = x ∷ r.queues.am; ain = r.queues.ain; aout = r.queues.aout }; fetched = true; out = r.out }

abbrev pub onto_ain : ℕ → Reclaimed → Accessed
onto_ain x r = record { queues = record { am = r.queues.am; ain = x ∷ r.queues.ain; aout = r.queues.aout }; fetched = true; out = r.out }

-- On accessing a page X
abbrev pub access : ℕ → Queues → ℕ → Accessed
access slots q x =
    -- if X is in Am, it is moved to the head of Am
    cond (member x q.am)
    (found (record { am = x ∷ less x q.am; ain = q.ain; aout = q.aout }))
    -- else if X is in Aout, a slot is reclaimed and X is added to the head of Am
    -- (ours: the identifier of X is taken out of Aout first)
    (cond (member x q.aout)
    (onto_am x (reclaimfor slots (record { am = q.am; ain = q.ain; aout = less x q.aout })))
    -- else if X is in Ain, nothing is done
    (cond (member x q.ain)
    (found q)
    -- else X is in no queue: a slot is reclaimed and X is added to the head of Ain
    (onto_ain x (reclaimfor slots q))))

-- A run of a reference string: the queues, the pages paged out, in order, and how many of the
-- references found their page and how many had to fetch it.
pub record Run : Type 0 where
  pub queues : Queues
  pub left : List ℕ
  pub hits : ℕ
  pub fetches : ℕ

abbrev pub tallied : Run → Accessed → Run
tallied r a = record {
  queues = a.queues;
  left = r.left ++ put a.out [];
  hits = r.hits + cond a.fetched 0 1;
  fetches = r.fetches + cond a.fetched 1 0;
}

abbrev pub run_from : ℕ → Run → List ℕ → Run
run_from slots r [] = r
run_from slots r (x ∷ xs) = run_from slots (tallied r (access slots r.queues x)) xs

abbrev pub empty : Queues
empty = record { am = []; ain = []; aout = [] }

abbrev pub printed_run : ℕ → List ℕ → Run
printed_run slots string = run_from slots (record { queues = empty; left = []; hits = 0; fetches = 0 }) string
