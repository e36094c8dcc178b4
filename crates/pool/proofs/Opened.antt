-- What an opening promises.
use Rattle.std.proofs.Common.{sym}
use Rattle.book.specs.Life.{Sight, Opens}
use Rattle.book.proofs.Lives.{lives, agree}
use Rattle.pool.specs.Promise.{Promised}

pub promised : (c : Sight) → Opens c → Promised c
promised c o = record {
  lives = lives c o;
  alike = λ e d d' calls rs rs' s l m. (agree.same c d e d' calls rs rs' (sym s) l m).0;
}
