-- What an opening promises of the whole life of a pool.
use Rattle.std.specs.Prelude.{◌≡◌, List}
use Rattle.book.specs.Call.{Call, Answer}
use Rattle.book.specs.Life.{Sight, Life, Lives}

-- Every list of calls from here on, worked by the calls of the pool and by nothing else, gets the
-- answers of the page book, and wherever it is cut the device holds for each readable page bytes that
-- the book gave it no earlier than its last accepted flush; and the same list gets the same answers
-- from every pool whose book opens equal, whatever its device and its policy are.
pub record Promised (c : Sight) : Type 0 where
  pub lives : Lives 0 c
  pub alike : (e d d' : Sight) (calls : List Call) (rs rs' : List Answer) → e.book ≡ c.book → Life c calls rs d → Life e calls rs' d' → rs ≡ rs'
