use Rattle.book.proofs.Laws.{page_laws}
use Rattle.book.proofs.limits.page_bytes.Goals as goal

pub returns : goal.returns
returns c = page_laws
