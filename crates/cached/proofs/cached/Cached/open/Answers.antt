use Rattle.cached.proofs.Opened.{open_idle}
use Rattle.cached.proofs.cached.Cached.open.Goals as goal

pub invariant_of-result : goal.invariant_of-result
invariant_of-result g c = record { idle = open_idle c.args.device c.args.policy c.args.mark c.open.result c.open.ensures.opened }
