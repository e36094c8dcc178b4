-- What the inner steps of a cached device's calls answer and do.
use Rattle.std.specs.Prelude.{◌≡◌, ℕ, List, Ok, Err, Option, Result}
use Rattle.page.specs.declared.refusal.Refusal.{Refusal}
use Rattle.device.specs.declared.device.Device as device
use Rattle.policy.specs.declared.policy.Policy as policy
use Rattle.device.specs.Calls.{DidRead, DidWrite}
use Rattle.device.specs.Row.{Page, read_at, write_at}
use Rattle.book.specs.Book.{by_kind}
use Rattle.book.specs.declared.grant.Kind.{Kind}
use Rattle.pool.specs.Did.{given}
use Rattle.pool.specs.Meaning.{book}
use Rattle.pool.specs.declared.grant.Grant.{Grant}
use Rattle.pool.specs.declared.pool.Pool.{Pool}
use Rattle.cached.specs.Idle.{Idle}
use Rattle.cached.specs.Through.{Fixes, ReadThrough, WriteThrough}

-- What a device answers to a call for which a grant of a kind is needed.
abbrev pub answer_at : Kind → Option Page → Result (Unit {0}) Refusal
answer_at kind o = by_kind kind (read_at o) (write_at o)

module _ {D P : Type 0} {d : device.Ghosts D} {p : policy.Ghosts P} where
  -- A grant is given where the device's call is accepted, and nothing is altered where it is not.
  abbrev pub DidGrant : {K : Type 0} → Pool D P d p → Kind → ℕ → Result (Grant K) Refusal → Pool D P d p → Type 0
  DidGrant pool kind page (Ok g) pool' = (answer_at kind ((book pool).pages page) ≡ Ok tt) × (g ≡ given pool.mark page) × Fixes pool kind page pool'
  DidGrant pool kind page (Err e) pool' = (answer_at kind ((book pool).pages page) ≡ Err e) × (pool' ≡ pool)

  -- A read and a write of the book's pages, before they are shown one deeper.
  pub record DidReadThrough (pool : Pool D P d p) (page : ℕ) (old : List ℕ) (r : Result (Unit {0}) Refusal) (pool' : Pool D P d p) (new : List ℕ) : Type 0 where
    pub idle : Idle pool'
    pub did : DidRead (book pool).size (book pool).pages page old r (book pool').size (book pool').pages new
    pub through : ReadThrough pool page old r pool' new

  pub record DidWriteThrough (pool : Pool D P d p) (page : ℕ) (bytes : List ℕ) (r : Result (Unit {0}) Refusal) (pool' : Pool D P d p) : Type 0 where
    pub idle : Idle pool'
    pub did : DidWrite (book pool).size (book pool).pages page bytes r (book pool').size (book pool').pages
    pub through : WriteThrough pool page bytes r pool'
