use Rattle.book.proofs.Lives.{lives}
use Rattle.book.proofs.life.opening_moment.Goals as goal

pub returns : goal.returns
returns c = lives
