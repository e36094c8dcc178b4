-- What each call of a pool answers and does.
use Rattle.std.specs.Prelude.{◌≡◌, ℕ, Bool, true, false, cond, List, length, is_ok, Some, Ok, Err, Result, ◌==◌}
use Rattle.page.specs.declared.refusal.Refusal.{Refusal}
use Rattle.device.specs.declared.device.Device as device
use Rattle.policy.specs.declared.outcome.Outcome.{Outcome}
use Rattle.policy.specs.declared.policy.Policy as policy
use Rattle.book.specs.Book.{Book, opened, refusal}
use Rattle.book.specs.Call.{Call, Answer}
use Rattle.book.specs.Call.Call.{Fix, Read, Write, Unfix, Flush, FlushAll, Close}
use Rattle.book.specs.Call.Answer.{Granted, Copied, Done, Refused}
use Rattle.book.specs.Life.{Step}
use Rattle.book.specs.declared.grant.Ticket.{Ticket}
use Rattle.turns.specs.Lived.{Doing}
use Rattle.turns.specs.Turns.{Course}
use Rattle.pool.specs.declared.grant.Grant.{Grant}
use Rattle.pool.specs.declared.pool.Pool.{Pool}
use Rattle.pool.specs.declared.purpose.Purpose as purpose
use Rattle.pool.specs.Meaning.{book, sight, course, scene}

-- A grant as the book hears of it.
abbrev pub ticket : {K : Type 0} (k : purpose.Ghosts K) → Grant K → Ticket
ticket k g = record { kind = k.KIND; mark = g.mark; page = g.page }

-- Answers as the book gives them.
abbrev pub granted : {G : Type 0} → (G → Ticket) → Result G Refusal → Answer
granted told (Ok g) = Granted (told g)
granted told (Err e) = Refused e

abbrev pub copied : Result (Unit {0}) Refusal → List ℕ → Answer
copied (Ok x) bytes = Copied bytes
copied (Err e) bytes = Refused e

abbrev pub done : Result (Unit {0}) Refusal → Answer
done (Ok x) = Done
done (Err e) = Refused e

-- A grant that was just given.
abbrev pub given : {K : Type 0} → ℕ → ℕ → Grant K
given mark page = record { mark = mark; page = page; spent = false; purpose = record {} }

abbrev pub Gives : {G : Type 0} → Result G Refusal → G → Type 0
Gives (Ok g) x = g ≡ x
Gives (Err e) x = Unit {0}

-- Whether a call may reach the device, and the pages that it may write there: a fix the page that
-- leaves, which was resident and is no more; a flush its page; flush-all and close every page.
abbrev pub reaches : Call → Bool
reaches (Fix kind page) = true
reaches (Read g offset len) = false
reaches (Write mark page offset bytes) = false
reaches (Unfix g) = false
reaches (Flush page) = true
reaches FlushAll = true
reaches Close = true

abbrev pub may_write : Call → (was is : ℕ → Bool) → ℕ → Bool
may_write (Fix kind page) was is q = cond (was q) (cond (is q) false true) false
may_write (Read g offset len) was is q = false
may_write (Write mark page offset bytes) was is q = false
may_write (Unfix g) was is q = false
may_write (Flush page) was is q = page == q
may_write FlushAll was is q = true
may_write Close was is q = true

-- What a call did: the answer, the next book and what became of the pages below are the book's, the
-- policy took its turn, a refusal left the whole pool as it was, and no more was written than may be.
pub record Did {D P : Type 0} {d : device.Ghosts D} {p : policy.Ghosts P} (pool : Pool D P d p) (call : Call) (a : Answer) (pool' : Pool D P d p) : Type 0 where
  pub outcomes : List Outcome
  pub doing : Doing p (scene pool) call a outcomes (scene pool')
  pub refused : (r : Refusal) → refusal (book pool) call ≡ Some r → pool' ≡ pool
  pub still : reaches call ≡ false → pool'.device ≡ pool.device
  pub apart : (q : ℕ) → may_write call (p.resident (p.model pool.policy)) (p.resident (p.model pool'.policy)) q ≡ false → d.row pool'.device q ≡ d.row pool.device q

-- What a read under a grant did: as any call, and the pool is as it was; on a refusal, so is the buffer.
pub record DidCopy {D P : Type 0} {d : device.Ghosts D} {p : policy.Ghosts P} (pool : Pool D P d p) (ticket : Ticket) (offset : ℕ) (old : List ℕ) (r : Result (Unit {0}) Refusal) (new : List ℕ) : Type 0 where
  pub did : Did pool (Read ticket offset (length old)) (copied r new) pool
  pub buffer : is_ok r ≡ false → new ≡ old

-- What an opening did.
pub record DidOpen {D P : Type 0} {d : device.Ghosts D} {p : policy.Ghosts P} (below : D) (policy : P) (mark : ℕ) (pool : Pool D P d p) : Type 0 where
  pub device : pool.device ≡ below
  pub book : book pool ≡ opened (d.size below) (p.bound (p.model policy)) mark (d.row below)
  pub course : ◌≡◌ {A = Course p.Model} (course pool) (record { model = p.emptied (p.model policy); hits = 0; fetches = 0 })

-- What an opening at another time than 0 did.
abbrev pub at_time : Book → ℕ → Book
at_time b t = record { size = b.size; bound = b.bound; mark = b.mark; clock = t; pages = b.pages; reading = b.reading; updating = b.updating }

pub record DidOpenAt {D P : Type 0} {d : device.Ghosts D} {p : policy.Ghosts P} (below : D) (policy : P) (mark t : ℕ) (pool : Pool D P d p) : Type 0 where
  pub device : pool.device ≡ below
  pub book : book pool ≡ at_time (opened (d.size below) (p.bound (p.model policy)) mark (d.row below)) t
  pub course : ◌≡◌ {A = Course p.Model} (course pool) (record { model = p.emptied (p.model policy); hits = 0; fetches = 0 })

-- What a close did: the device handed out holds the book's pages.
pub record DidClose {D P : Type 0} {d : device.Ghosts D} {p : policy.Ghosts P} (pool : Pool D P d p) (below : D) : Type 0 where
  pub size : d.size below ≡ d.size pool.device
  pub row : (q : ℕ) → d.row below q ≡ (book pool).pages q
  pub step : Step (sight pool) Close Done (record { book = book pool; below = d.row below })

-- What a renewal did: all is written back, and the pool is as one that was just opened.
pub record DidRenew {D P : Type 0} {d : device.Ghosts D} {p : policy.Ghosts P} (pool pool' : Pool D P d p) : Type 0 where
  pub row : (q : ℕ) → d.row pool'.device q ≡ (book pool).pages q
  pub book : book pool' ≡ opened (book pool).size (book pool).bound pool.mark (book pool).pages
  pub course : ◌≡◌ {A = Course p.Model} (course pool') (record { model = p.emptied (p.model pool.policy); hits = 0; fetches = 0 })
