-- How many pages have a grant out, by the frames of a sound pool.
use Rattle.std.proofs.Common.{◌≡◌, ℕ, ◌<◌, ◌≤◌, Some, None, Option, refl, arith}
use Rattle.device.specs.declared.device.Device as device
use Rattle.policy.specs.declared.policy.Policy as policy
use Rattle.book.specs.Book.{held}
use Rattle.frames.specs.Table.{frame, pins}
use Rattle.pool.specs.declared.pool.Pool.{Pool}
use Rattle.pool.specs.Meaning.{book}
use Rattle.pool.specs.Steps.{Vacated}
use Rattle.pool.proofs.Counting.{busy, held_is, busy-most, busy-less, busy-full}
use Rattle.pool.proofs.Standing.{page-low}

module _ {D P : Type 0} {d : device.Ghosts D} {p : policy.Ghosts P} (pool : Pool D P d p) where
  held-busy : held (book pool) ≡ busy pool.frames.used (frame pool.frames)
  held-busy = held_is pool.frames.used (frame pool.frames) (book pool) pool.tied.once (page-low pool.frames.used (frame pool.frames) _ _ _ pool.tied (d.size pool.device) (d.shaped pool.device)) (λ k. refl)

  within : pool.frames.used ≤ p.bound (p.model pool.policy)
  within = omega (arith, pool.tied.filled, (p.kept pool.policy).within)

  -- fewer than the bound, while a frame is free or has no grant out
  pub held-few : pool.frames.used < p.bound (p.model pool.policy) → held (book pool) < p.bound (p.model pool.policy)
  held-few l = omega (arith, held-busy, busy-most pool.frames.used (frame pool.frames))

  pub held-some : (i : ℕ) → i < pool.frames.used → pins (frame pool.frames i).slot ≡ 0 → held (book pool) < p.bound (p.model pool.policy)
  held-some i l e = omega (arith, held-busy, within, busy-less pool.frames.used (frame pool.frames) i l e)

  -- and the bound where every frame has one
  pub held_all : p.size (p.model pool.policy) ≡ p.bound (p.model pool.policy) → ((i : ℕ) → i < pool.frames.used → 0 < pins (frame pool.frames i).slot) → p.bound (p.model pool.policy) ≤ held (book pool)
  held_all e h = omega (arith, held-busy, pool.tied.filled, e, busy-full pool.frames.used (frame pool.frames) h)

  pub held-vacant : (i : ℕ) (o : Option ℕ) → Vacated pool.frames.used (frame pool.frames) (p.bound (p.model pool.policy)) i o → held (book pool) < p.bound (p.model pool.policy)
  held-vacant i None v = held-few v.1
  held-vacant i (Some q) v = held-some i v.0 v.2
