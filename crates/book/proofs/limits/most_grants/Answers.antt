use Rattle.book.proofs.Laws.{grant_laws}
use Rattle.book.proofs.limits.most_grants.Goals as goal

pub returns : goal.returns
returns c = grant_laws
