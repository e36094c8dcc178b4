-- What a cached device shows, and that it has the shape that every device owes.
use Rattle.std.specs.Prelude.{◌≡◌, is_some, Some, None, Option, refl}
use Rattle.std.proofs.Common.{◌∙◌}
use Rattle.device.specs.declared.device.Device as device
use Rattle.policy.specs.declared.policy.Policy as policy
use Rattle.device.specs.Row.{Page, sound, worn, lost, Row, up_at}
use Rattle.device.specs.Shape.{Shaped, Whole}
use Rattle.device.specs.Raising.{some_up, whole_up}
use Rattle.frames.specs.Table.{Frame}
use Rattle.pool.specs.Meaning.{book, held, shown}
use Rattle.pool.specs.Tied.{Stands}
use Rattle.pool.specs.declared.pool.Pool.{Pool}

pub some_shown : (f : Option Frame) (o : Option Page) → is_some (shown f o) ≡ is_some o
some_shown None o = refl
some_shown (Some f) None = refl
some_shown (Some f) (Some p) = refl

pub whole_shown : (f : Option Frame) (o : Option Page) → Stands f o → Whole o → Whole (shown f o)
whole_shown None o h w = w
whole_shown (Some f) None h w = absurd h
whole_shown (Some f) (Some (sound bs)) h w = h.0
whole_shown (Some f) (Some (worn x bs)) h w = w
whole_shown (Some f) (Some (lost x)) h w = w

module _ {D P : Type 0} {d : device.Ghosts D} {p : policy.Ghosts P} where
  -- The pages of the pool's book, each one deeper.
  abbrev pub cached_row : Pool D P d p → Row
  cached_row pool k = up_at ((book pool).pages k)

  pub cached_shaped : (pool : Pool D P d p) → Shaped (d.size pool.device) (cached_row pool)
  cached_shaped pool =
      let s = d.shaped pool.device in
      record {
        few = s.few;
        exact = λ k. some_up ((book pool).pages k) ∙ some_shown (held pool k) (d.row pool.device k) ∙ s.exact k;
        whole = λ k. whole_up ((book pool).pages k) (whole_shown (held pool k) (d.row pool.device k) (pool.tied.stands k) (s.whole k));
      }
