-- What the fixes of a pool do to its policy.
use Rattle.std.specs.Prelude.{◌≡◌, ℕ, ◌+◌, Bool, false, cond, List, [], ◌∷◌, Some, None, Option, MatchOption, ◌==◌, nat_lt}
use Rattle.page.specs.declared.refusal.Refusal.{Refusal}
use Rattle.policy.specs.Sets.{member, entered}
use Rattle.policy.specs.declared.outcome.Outcome.{Outcome}
use Rattle.policy.specs.declared.outcome.Outcome.TheVariants.{Hit, Fetch}
use Rattle.policy.specs.declared.policy.Policy as policy
use Rattle.book.specs.Book.{Book, grants, refusal}
use Rattle.book.specs.Call.{Call}
use Rattle.book.specs.Call.Call.{Fix, Read, Write, Unfix, Flush, FlushAll, Close}

-- Where a policy stands in a pool: what it remembers, and the hits and fetches counted.
pub record Course (M : Type 0) : Type 0 where
  pub model : M
  pub hits : ℕ
  pub fetches : ℕ

-- A page is free where it has no grant out.
abbrev pub free : Book → ℕ → Bool
free b q = grants b q == 0

-- The page that a call fixes, and that it fixes if it is accepted.
abbrev pub named : Call → Option ℕ
named (Fix kind page) = Some page
named (Read g offset len) = None
named (Write mark page offset bytes) = None
named (Unfix g) = None
named (Flush page) = None
named FlushAll = None
named Close = None

abbrev pub unless : Option Refusal → Option ℕ → Option ℕ
unless None o = o
unless (Some r) o = None

abbrev pub fixed_page : Book → Call → Option ℕ
fixed_page b call = unless (refusal b call) (named call)

-- The resident pages after an outcome.
abbrev pub resident_after : (ℕ → Bool) → ℕ → Outcome → ℕ → Bool
resident_after s page Hit q = s q
resident_after s page (Fetch out) q = entered s page out q

module _ {P : Type 0} (g : policy.Ghosts P) where
  -- What the fix of a page comes to at a time: a hit if the page is resident; else a fetch, for which
  -- no page leaves while a frame is free, and then the one that the policy chooses of those listed.
  abbrev pub outcome_of : g.Model → List ℕ → ℕ → ℕ → Outcome
  outcome_of m listed page t = cond (g.resident m page) Hit (Fetch (cond (nat_lt (g.size m) (g.bound m)) None (g.chosen m listed t)))

  -- The course after an outcome.
  abbrev pub after : Course g.Model → ℕ → ℕ → Outcome → Course g.Model
  after x page t Hit = record { model = g.touched x.model page t; hits = x.hits + 1; fetches = x.fetches }
  after x page t (Fetch out) = record { model = g.admitted x.model page out t; hits = x.hits; fetches = x.fetches + 1 }

  -- One accepted fix of a page at a time. The pages listed for a choice are exactly the resident ones
  -- that are free; in which order, and how often each, is left open.
  pub record Turn (free : ℕ → Bool) (x : Course g.Model) (page t : ℕ) (o : Outcome) (x' : Course g.Model) : Type 0 where
    pub listed : List ℕ
    pub exact : (q : ℕ) → member q listed ≡ cond (g.resident x.model q) (free q) false
    pub outcome : o ≡ outcome_of x.model listed page t
    pub course : x' ≡ after x page t o
    pub resident : (q : ℕ) → g.resident x'.model q ≡ resident_after (g.resident x.model) page o q

  -- What a call does to the course, with what it came to: only an accepted fix does anything, at the
  -- time that the clock then shows.
  pub record Fixed (b : Book) (x : Course g.Model) (os : List Outcome) (x' : Course g.Model) (page : ℕ) : Type 0 where
    pub outcome : Outcome
    pub only : os ≡ outcome ∷ []
    pub turn : Turn (free b) x page (b.clock + 1) outcome x'

  abbrev pub Turned : Book → Course g.Model → Call → List Outcome → Course g.Model → Type 0
  Turned b x call os x' = MatchOption (fixed_page b call) ((x' ≡ x) × (os ≡ [])) (Fixed b x os x')
