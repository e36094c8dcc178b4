-- One grant more, and one count more.
use Rattle.std.proofs.Common.{◌≡◌, ℕ, ◌+◌, ◌-◌, ◌^◌, ◌<◌, ◌≤◌, min, Option, refl, arith}
use Rattle.book.specs.Book.{by_kind}
use Rattle.book.specs.declared.grant.Kind.{Kind}
use Rattle.book.specs.declared.grant.Kind.TheVariants.{Reading, Updating}
use Rattle.frames.specs.Table.{Frame, pins, pins_of}
use Rattle.frames.specs.declared.slot.Slot.{Slot}
use Rattle.pool.specs.Meaning.{pins_at}

pub pins-one-more : (kind : Kind) (s : Slot) → pins s < 255 → min (pins_of kind s + 1) 255 ≡ pins_of kind s + 1
pins-one-more Reading s l = omega arith
pins-one-more Updating s l = omega arith

-- a count that the clock is no less than
pub saturated : (n other clock : ℕ) → n + other ≤ clock → clock < 4294967295 → min (n + 1) (2 ^ 32 - 1) ≡ n + 1
saturated n other clock l h = omega arith

-- the grants out for a page, by its frame
pub granted_at : (kind : Kind) (o : ℕ → Option Frame) (q : ℕ) → by_kind {X = ℕ → ℕ} kind (λ k. pins_at Reading (o k)) (λ k. pins_at Updating (o k)) q ≡ pins_at kind (o q)
granted_at Reading o q = refl
granted_at Updating o q = refl
