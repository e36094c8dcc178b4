use Rattle.std.proofs.Common.{Result}
use Rattle.page.specs.declared.refusal.Refusal.{Refusal}
use Rattle.cached.specs.Through.{ReadThrough}
use Rattle.cached.proofs.Raised.{accepted_below}
use Rattle.cached.proofs.as_device.CachedDevice.read.Goals as goal

pub returns-clause-through : goal.returns-clause-through
returns-clause-through g c =
    let R : Result (Unit {0}) Refusal → Type 0 = λ r. ReadThrough c.args.self.now.pool c.args.page c.args.buffer.now r c.read_through.new.pool c.read_through.new.buffer in
    accepted_below R c.read_through.result c.deeper.result c.in_ok-deeper.field-0 c.deeper.ensures c.in_ok-deeper.was c.read_through.ensures.through
