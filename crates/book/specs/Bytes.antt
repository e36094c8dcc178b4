use Rattle.std.specs.Prelude.{ℕ, ◌+◌, Bool, List, [], ◌++◌, length, take, drop, is_ok, Option}
use Rattle.device.specs.Row.{Page, read_at, write_at, filled_at}

-- A readable page is sound or worn, a writable one is sound.
abbrev pub readable : Option Page → Bool
readable o = is_ok (read_at o)

abbrev pub writable : Option Page → Bool
writable o = is_ok (write_at o)

-- The bytes of a page; one that is not readable has none.
abbrev pub bytes_at : Option Page → List ℕ
bytes_at o = filled_at o []

-- Bytes with new ones in place of the old from an offset on.
abbrev pub patched : ℕ → (new old : List ℕ) → List ℕ
patched offset new old = take offset old ++ (new ++ drop (offset + length new) old)
