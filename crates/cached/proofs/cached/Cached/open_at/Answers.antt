use Rattle.cached.proofs.Opened.{open_idle_at}
use Rattle.cached.proofs.cached.Cached.open_at.Goals as goal

pub invariant_of-result : goal.invariant_of-result
invariant_of-result g c = record { idle = open_idle_at c.args.device c.args.policy c.args.mark c.open_at.result c.args.time c.open_at.ensures.opened }
