use Rattle.book.proofs.Lives.{agree}
use Rattle.book.proofs.life.answers_per_call.Goals as goal

pub returns : goal.returns
returns c = agree
