use Rattle.std.specs.Prelude.{ℕ, List}
use Rattle.page.specs.declared.refusal.Refusal.{Refusal}
use Rattle.book.specs.declared.grant.Kind.{Kind}
use Rattle.book.specs.declared.grant.Ticket.{Ticket}

-- The calls of a pool, as the book hears them: a grant goes by its kind, its mark and its page. A
-- write is made under a grant for update alone, so its kind is not said.
pub data Call : Type 0 where
  Fix : (kind : Kind) (page : ℕ) → Call
  Read : (grant : Ticket) (offset len : ℕ) → Call
  Write : (mark page offset : ℕ) (bytes : List ℕ) → Call
  Unfix : (grant : Ticket) → Call
  Flush : (page : ℕ) → Call
  FlushAll : Call
  Close : Call

-- What a call is answered: a grant, the bytes copied, that it is done, or why it was refused.
pub data Answer : Type 0 where
  Granted : (grant : Ticket) → Answer
  Copied : (bytes : List ℕ) → Answer
  Done : Answer
  Refused : Refusal → Answer
