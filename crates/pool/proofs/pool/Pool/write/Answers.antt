use Rattle.std.proofs.Common.{refl}
use Rattle.book.specs.Call.Call.{Write}
use Rattle.pool.specs.Did.{done}
use Rattle.pool.proofs.Doings.{exit_refused}
use Rattle.pool.proofs.Working.{first_no_lem, did_write, written_kept}
use Rattle.pool.proofs.pool.Pool.write.Goals as goal

pub returns-in_err-place : goal.returns-in_err-place
returns-in_err-place g c =
    let t = c.args.grant.now in
    exit_refused c.args.self.now (Write t.mark t.page c.args.offset c.args.bytes.now) done (λ e. refl) c.from_residual.result _ c.from_residual.ensures.1 (first_no_lem _ _ _ c.in_err-place.ensures)

pub invariant_of-self : goal.invariant_of-self
invariant_of-self g c =
    let pool = c.args.self.now in
    let out = c.in_ok-place.ensures in
    let k = written_kept pool c.args.offset c.args.bytes.now c.in_ok-place.place.index c.write.new.self out.1 out.3 c.write.ensures.used c.write.ensures.frames in
    record { tied = k.0; counts = k.1 }

pub returns : goal.returns
returns g c =
    let out = c.in_ok-place.ensures in
    let t = c.args.grant.now in
    did_write c.args.self.now t.mark t.page c.args.offset c.args.bytes.now _ c.in_ok-place.place.index c.write.new.self (_, _) out.0 out.1 out.2 out.3 c.write.ensures.answer c.write.ensures.refused c.write.ensures.used c.write.ensures.frames
