use Rattle.published.proofs.LruTwoWhole.{lru_two_published}
use Rattle.published.proofs.lru_two_runs.first_time.Goals as goal

pub returns : goal.returns
returns c = lru_two_published
