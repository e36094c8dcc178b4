-- What a pool does under each policy is what the published algorithm does.
use Rattle.std.specs.Prelude.{◌≡◌, ℕ, ◌≤◌, List}
use Rattle.device.specs.Row.{Row}
use Rattle.policy.specs.Frames.{InRange}
use Rattle.policy.specs.Runs.{left}
use Rattle.policy.specs.declared.outcome.Outcome.{Outcome}
use Rattle.two_q.specs.AsPrinted.{of_queues}
use Rattle.two_q.specs.Model as twoq
use Rattle.two_q.specs.Of.{two_q}
use Rattle.two_q.specs.Printed as twoq-printed
use Rattle.lru_two.specs.AsPrinted.{of_state}
use Rattle.lru_two.specs.Model as lru
use Rattle.lru_two.specs.Of.{lru_two}
use Rattle.lru_two.specs.Printed as lru-printed
use Rattle.book.specs.Book.{opened}
use Rattle.book.specs.Call.{Call, Answer}
use Rattle.turns.specs.Turns.{Course}
use Rattle.turns.specs.Lived.{Scene, Lived}
use Rattle.published.specs.Fixings.{fixings, AtOnce}
use Rattle.published.specs.LruTwoAmong as lru-among
use Rattle.published.specs.TwoQAmong as twoq-among

-- A pool at its opening: its book is the one opened, with a frame count of frames; the policy
-- remembers nothing; and so many hits, and as many fetches, are counted.
pub record Opening {M : Type 0} (counted bound : ℕ) (empty : M) (c : Scene M) : Type 0 where
  pub frames : InRange bound
  pub size : ℕ
  pub mark : ℕ
  pub row : Row
  pub book : c.sight.book ≡ opened size bound mark row
  pub course : c.course ≡ record { model = empty; hits = counted; fetches = counted }

-- What came of a pool's life under 2Q is what a run of 2Q came to: what is remembered, what each
-- accepted fix came to, and with it the page that left at it, the pages that left, in order, and the
-- hits and fetches counted.
pub record TwoQRan (bound : ℕ) (x : Course twoq.Model) (os : List Outcome) (r : twoq-printed.Run) (came : List Outcome) : Type 0 where
  pub lists : x.model ≡ of_queues bound r.queues
  pub outcomes : os ≡ came
  pub left : left os ≡ r.left
  pub hits : x.hits ≡ r.hits
  pub fetches : x.fetches ≡ r.fetches

-- A pool under 2Q that counts from so many hits and fetches. After every list of calls from its
-- opening all that came of it is the run of 2Q over the accepted fixes, each with the pages then free
-- as those that may leave; and where each accepted fix is followed at once by its unfix, the printed
-- run over the string of pages.
pub record PublishedTwoQ (counted : ℕ) : Type 0 where
  pub among : (bound : ℕ) (c d : Scene twoq.Model) (calls : List Call) (rs : List Answer) (os : List Outcome) → Opening counted bound (twoq.empty bound) c → Lived two_q c calls rs os d →
      TwoQRan bound d.course os (twoq-among.published_run bound (fixings c.sight.book calls)) (twoq-among.published_outcomes bound (fixings c.sight.book calls))
  -- there are never more resident pages than frames
  pub within : (bound : ℕ) (c d : Scene twoq.Model) (calls : List Call) (rs : List Answer) (os : List Outcome) → Opening counted bound (twoq.empty bound) c → Lived two_q c calls rs os d →
      twoq.size d.course.model ≤ bound
  pub at_once : (bound : ℕ) (c d : Scene twoq.Model) (calls : List Call) (rs : List Answer) (os : List Outcome) → Opening counted bound (twoq.empty bound) c → Lived two_q c calls rs os d →
      (string : List ℕ) → AtOnce c.sight.book calls string → TwoQRan bound d.course os (twoq-printed.printed_run bound string) (twoq-among.printed_outcomes bound string)

-- What came of a pool's life under LRU-2 is what a run of LRU-2 came to, as above.
pub record LruTwoRan (bound crp : ℕ) (x : Course lru.Model) (os : List Outcome) (r : lru-printed.Run) (came : List Outcome) : Type 0 where
  pub blocks : x.model ≡ of_state bound crp r.state
  pub outcomes : os ≡ came
  pub left : left os ≡ r.left
  pub hits : x.hits ≡ r.hits
  pub fetches : x.fetches ≡ r.fetches

-- A pool under LRU-2, with the time of its first accepted fix; each further one is one later. After
-- every list of calls from its opening all that came of it is the run of LRU-2 over the accepted
-- fixes, each with the pages then free as those that may leave; and where each accepted fix is followed
-- at once by its unfix, the printed run over the string of pages.
pub record PublishedLruTwo (first : ℕ) : Type 0 where
  pub among : (bound crp : ℕ) (c d : Scene lru.Model) (calls : List Call) (rs : List Answer) (os : List Outcome) → Opening 0 bound (lru.empty bound crp) c → Lived lru_two c calls rs os d →
      LruTwoRan bound crp d.course os (lru-among.published_run bound crp first (fixings c.sight.book calls)) (lru-among.published_outcomes bound crp first (fixings c.sight.book calls))
  -- there are never more resident pages than frames
  pub within : (bound crp : ℕ) (c d : Scene lru.Model) (calls : List Call) (rs : List Answer) (os : List Outcome) → Opening 0 bound (lru.empty bound crp) c → Lived lru_two c calls rs os d →
      lru.size d.course.model ≤ bound
  pub at_once : (bound crp : ℕ) (c d : Scene lru.Model) (calls : List Call) (rs : List Answer) (os : List Outcome) → Opening 0 bound (lru.empty bound crp) c → Lived lru_two c calls rs os d →
      (string : List ℕ) → AtOnce c.sight.book calls string → LruTwoRan bound crp d.course os (lru-printed.printed_run bound crp string) (lru-among.printed_outcomes bound crp string)
