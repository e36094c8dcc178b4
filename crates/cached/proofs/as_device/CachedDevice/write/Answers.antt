use Rattle.std.proofs.Common.{Result}
use Rattle.page.specs.declared.refusal.Refusal.{Refusal}
use Rattle.cached.specs.Through.{WriteThrough}
use Rattle.cached.proofs.Raised.{accepted_below}
use Rattle.cached.proofs.as_device.CachedDevice.write.Goals as goal

pub returns-clause-through : goal.returns-clause-through
returns-clause-through g c =
    let R : Result (Unit {0}) Refusal → Type 0 = λ r. WriteThrough c.args.self.now.pool c.args.page c.args.bytes.now r c.write_through.new.pool in
    accepted_below R c.write_through.result c.deeper.result c.in_ok-deeper.field-0 c.deeper.ensures c.in_ok-deeper.was c.write_through.ensures.through
