-- What a pool means: its page book, the row below it, and where its policy stands.
use Rattle.std.specs.Prelude.{ℕ, Some, None, Option}
use Rattle.device.specs.Row.{Page, over_at}
use Rattle.device.specs.declared.device.Device as device
use Rattle.policy.specs.declared.policy.Policy as policy
use Rattle.book.specs.Book.{Book}
use Rattle.book.specs.Life.{Sight}
use Rattle.book.specs.declared.grant.Kind.{Kind}
use Rattle.book.specs.declared.grant.Kind.TheVariants.{Reading, Updating}
use Rattle.frames.specs.Table.{Frame, frame, at, pins_of}
use Rattle.turns.specs.Lived.{Scene}
use Rattle.turns.specs.Turns.{Course}
use Rattle.pool.specs.declared.pool.Pool.{Pool}

-- A page as the book has it: with the bytes of its frame, if it is in one.
abbrev pub shown : Option Frame → Option Page → Option Page
shown None o = o
shown (Some f) o = over_at o f.bytes

-- The grants of a kind out for the page of a frame.
abbrev pub pins_at : Kind → Option Frame → ℕ
pins_at kind None = 0
pins_at kind (Some f) = pins_of kind f.slot

-- The frame that a page is in, if any.
abbrev pub held : {D P : Type 0} {d : device.Ghosts D} {p : policy.Ghosts P} → Pool D P d p → ℕ → Option Frame
held pool = at pool.frames.used (frame pool.frames)

module _ {D P : Type 0} {d : device.Ghosts D} {p : policy.Ghosts P} where
  abbrev pub book : Pool D P d p → Book
  book pool = record {
    size = d.size pool.device;
    bound = p.bound (p.model pool.policy);
    mark = pool.mark;
    clock = pool.clock;
    pages = λ k. shown (held pool k) (d.row pool.device k);
    reading = λ k. pins_at Reading (held pool k);
    updating = λ k. pins_at Updating (held pool k);
  }

  abbrev pub sight : Pool D P d p → Sight
  sight pool = record { book = book pool; below = d.row pool.device }

  abbrev pub course : Pool D P d p → Course p.Model
  course pool = record { model = p.model pool.policy; hits = pool.hits; fetches = pool.fetches }

  abbrev pub scene : Pool D P d p → Scene p.Model
  scene pool = record { sight = sight pool; course = course pool }
