use Rattle.std.specs.Prelude.{◌≡◌, ℕ, ◌<◌, true, length, is_some, None, ◌≢◌, slice_index_or}
use Rattle.defects.specs.Defects.{Marks, said_of, mark_of}

-- A place where a mark of the page may go: the first that has one, or a free one if none has.
pub record Spot (ms : Marks) (page i : ℕ) : Type 0 where
  pub within : i < length ms
  pub before : (j : ℕ) → j < i → said_of (slice_index_or ms j None) page ≡ None
  pub others : (k : ℕ) → (k ≢ page) → said_of (slice_index_or ms i None) k ≡ None
  pub free : is_some (slice_index_or ms i None) ≡ is_some (mark_of ms page)

-- None of the first n places says anything of the page.
abbrev pub Unmarked : Marks → ℕ → ℕ → Type 0
Unmarked ms n page = (j : ℕ) → j < n → said_of (slice_index_or ms j None) page ≡ None

-- Each of the first n places is taken.
abbrev pub Filled : Marks → ℕ → Type 0
Filled ms n = (j : ℕ) → j < n → is_some (slice_index_or ms j None) ≡ true
