use Rattle.book.proofs.Laws.{clock_laws}
use Rattle.book.proofs.limits.last_time.Goals as goal

pub returns : goal.returns
returns c = clock_laws
