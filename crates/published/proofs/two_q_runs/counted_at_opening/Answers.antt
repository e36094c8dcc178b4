use Rattle.published.proofs.TwoQWhole.{two_q_published}
use Rattle.published.proofs.two_q_runs.counted_at_opening.Goals as goal

pub returns : goal.returns
returns c = two_q_published
