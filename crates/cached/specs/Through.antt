-- How the calls of a cached device leave its pool.
use Rattle.std.specs.Prelude.{◌≡◌, ℕ, ◌<◌, ◌≤◌, List, Ok, Err, Result}
use Rattle.page.specs.declared.refusal.Refusal.{Refusal}
use Rattle.device.specs.declared.device.Device as device
use Rattle.policy.specs.declared.policy.Policy as policy
use Rattle.book.specs.Call.Call.{Fix, Write, Unfix}
use Rattle.book.specs.Call.Answer.{Granted, Done}
use Rattle.book.specs.declared.grant.Kind.{Kind}
use Rattle.book.specs.declared.grant.Kind.TheVariants.{Reading, Updating}
use Rattle.book.specs.declared.grant.Ticket.{Ticket}
use Rattle.pool.specs.Did.{Did, DidCopy, DidRenew}
use Rattle.pool.specs.declared.pool.Pool.{Pool}

module _ {D P : Type 0} {d : device.Ghosts D} {p : policy.Ghosts P} where
  -- The grant of a kind that a pool gives for a page.
  abbrev pub grant_of : Pool D P d p → Kind → ℕ → Ticket
  grant_of pool kind page = record { kind = kind; mark = pool.mark; page = page }

  -- The pool in which an accepted call begins: as it was or, where its clock was full, renewed.
  pub record Begins (pool start : Pool D P d p) : Type 0 where
    pub in_time : pool.clock < 4294967295 → start ≡ pool
    pub renewed : 4294967295 ≤ pool.clock → DidRenew pool start

  -- The first step of an accepted call: a fix.
  pub record Fixes (pool : Pool D P d p) (kind : Kind) (page : ℕ) (fixed : Pool D P d p) : Type 0 where
    pub start : Pool D P d p
    pub begins : Begins pool start
    pub fix : Did start (Fix kind page) (Granted (grant_of pool kind page)) fixed

  -- An accepted read: a fix, a copy of the whole page, and an unfix.
  pub record Reads (pool : Pool D P d p) (page : ℕ) (old : List ℕ) (pool' : Pool D P d p) (new : List ℕ) : Type 0 where
    pub fixed : Pool D P d p
    pub fixes : Fixes pool Reading page fixed
    pub copy : DidCopy fixed (grant_of pool Reading page) 0 old (Ok tt) new
    pub unfix : Did fixed (Unfix (grant_of pool Reading page)) Done pool'

  -- An accepted write: a fix, a write of the whole page, and an unfix.
  pub record Writes (pool : Pool D P d p) (page : ℕ) (bytes : List ℕ) (pool' : Pool D P d p) : Type 0 where
    pub fixed : Pool D P d p
    pub fixes : Fixes pool Updating page fixed
    pub wrote : Pool D P d p
    pub write : Did fixed (Write pool.mark page 0 bytes) Done wrote
    pub unfix : Did wrote (Unfix (grant_of pool Updating page)) Done pool'

  -- A refused call leaves the whole pool as it was.
  abbrev pub ReadThrough : Pool D P d p → ℕ → List ℕ → Result (Unit {0}) Refusal → Pool D P d p → List ℕ → Type 0
  ReadThrough pool page old (Ok x) pool' new = Reads pool page old pool' new
  ReadThrough pool page old (Err e) pool' new = pool' ≡ pool

  abbrev pub WriteThrough : Pool D P d p → ℕ → List ℕ → Result (Unit {0}) Refusal → Pool D P d p → Type 0
  WriteThrough pool page bytes (Ok x) pool' = Writes pool page bytes pool'
  WriteThrough pool page bytes (Err e) pool' = pool' ≡ pool
