use Rattle.std.specs.Prelude.{◌≡◌, ℕ, ◌<◌, ◌≤◌, true}
use Rattle.device.specs.Shape.{Shaped}
use Rattle.book.specs.Book.{Book, grants, held}
use Rattle.book.specs.Bytes.{readable, writable}

-- What holds of a book from its opening on: its pages have the shape of a device's row, a page with a
-- grant out is readable and one with a grant for update is sound, and no limit is passed.
pub record Proper (b : Book) : Type 0 where
  pub shaped : Shaped b.size b.pages
  pub readables : (page : ℕ) → 0 < grants b page → readable (b.pages page) ≡ true
  pub sounds : (page : ℕ) → 0 < b.updating page → writable (b.pages page) ≡ true
  pub few : (page : ℕ) → grants b page ≤ 255
  pub bounded : held b ≤ b.bound
  pub clock : b.clock ≤ 4294967295
