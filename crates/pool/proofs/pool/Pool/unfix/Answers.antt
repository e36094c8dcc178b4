use Rattle.std.proofs.Common.{ℕ, refl, ap, ◌∙◌}
use Rattle.book.specs.Call.Call.{Unfix}
use Rattle.book.specs.declared.grant.Kind.{Kind}
use Rattle.frames.specs.Table.{Frame, frame, unpinned, with, with_slot}
use Rattle.frames.specs.declared.frames.Frames.{Frames}
use Rattle.pool.specs.Did.{done, ticket}
use Rattle.pool.proofs.Doings.{exit_refused}
use Rattle.pool.proofs.Working.{first_no_lem, did_unfix, unpinned_kept}
use Rattle.pool.proofs.pool.Pool.unfix.Goals as goal

-- one grant of a kind less
abbrev one-less : Frames → ℕ → ℕ → Kind → Frame
one-less t i j kind = with (frame t) i (with_slot (frame t i) (unpinned kind (frame t i).slot)) j

pub returns-in_err-place : goal.returns-in_err-place
returns-in_err-place g c = exit_refused c.args.self.now (Unfix (ticket g.K.Purpose c.args.grant)) done (λ e. refl) c.from_residual.result _ c.from_residual.ensures.1 (first_no_lem _ _ _ c.in_err-place.ensures)

pub invariant_of-self : goal.invariant_of-self
invariant_of-self g c =
    let pool = c.args.self.now in
    let k = unpinned_kept pool g.K.Purpose.KIND c.in_ok-place.place.index c.unpin.new.self c.in_ok-place.ensures.1 c.unpin.ensures.used (λ j. c.unpin.ensures.frames j ∙ ap (one-less pool.frames c.in_ok-place.place.index j) c.KIND-kind.ensures) in
    record { tied = k.0; counts = k.1 }

pub returns : goal.returns
returns g c =
    let out = c.in_ok-place.ensures in
    did_unfix c.args.self.now (ticket g.K.Purpose c.args.grant) c.in_ok-place.place.index c.unpin.new.self (_, _) out.0 out.1 out.2 c.unpin.ensures.used (λ j. c.unpin.ensures.frames j ∙ ap (one-less c.args.self.now.frames c.in_ok-place.place.index j) c.KIND-kind.ensures)
