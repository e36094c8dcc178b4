use Rattle.turns.proofs.Living.{lived_laws}
use Rattle.turns.proofs.laws.outcomes_per_fix.Goals as goal

pub returns : goal.returns
returns g c = lived_laws g.P.Policy
