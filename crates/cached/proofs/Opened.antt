-- A cached device at its opening.
use Rattle.std.proofs.Common.{ℕ, ap}
use Rattle.device.specs.declared.device.Device as device
use Rattle.policy.specs.declared.policy.Policy as policy
use Rattle.book.specs.Book.{Book, grants}
use Rattle.pool.specs.Did.{DidOpen, DidOpenAt}
use Rattle.pool.specs.declared.pool.Pool.{Pool}
use Rattle.cached.specs.Idle.{Idle}

module _ {D P : Type 0} {d : device.Ghosts D} {p : policy.Ghosts P} (below : D) (policy : P) (mark : ℕ) (pool : Pool D P d p) where
  pub open_idle : DidOpen below policy mark pool → Idle pool
  open_idle h q = ap (λ (b : Book). grants b q) h.book

  pub open_idle_at : (t : ℕ) → DidOpenAt below policy mark t pool → Idle pool
  open_idle_at t h q = ap (λ (b : Book). grants b q) h.book
