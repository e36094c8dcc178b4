use Rattle.std.specs.Prelude.{◌≡◌, ℕ}
use Rattle.device.specs.declared.device.Device as device
use Rattle.policy.specs.declared.policy.Policy as policy
use Rattle.book.specs.Book.{grants}
use Rattle.pool.specs.Meaning.{book}
use Rattle.pool.specs.declared.pool.Pool.{Pool}

-- No grant is out.
abbrev pub Idle : {D P : Type 0} {d : device.Ghosts D} {p : policy.Ghosts P} → Pool D P d p → Type 0
Idle pool = (k : ℕ) → grants (book pool) k ≡ 0
