use Rattle.std.specs.Prelude.{ℕ, ◌*◌, ◌/◌, min, cond, List, length, take, drop, Some, None, nat_lt}
use Rattle.page.specs.declared.origin.Origin.{Origin}
use Rattle.device.specs.Row.{Row, sound, worn}

-- How many whole pages a length of bytes has, and no more than fit 32 bits.
abbrev pub pages_in : ℕ → ℕ
pages_in n = min (n / 512) 4294967295

-- The bytes of page k.
abbrev pub page_of : List ℕ → ℕ → List ℕ
page_of bs k = take 512 (drop (k * 512) bs)

-- The bytes after the last whole page.
abbrev pub tail_of : List ℕ → List ℕ
tail_of bs = drop (pages_in (length bs) * 512) bs

-- Writable bytes as a row: all pages are sound.
abbrev pub memory_row : List ℕ → Row
memory_row bs k = cond (nat_lt k (pages_in (length bs))) (Some (sound (page_of bs k))) None

abbrev pub made : ℕ → Origin
made k = record { page = k; depth = 0 }

-- Bytes that can only be read as a row: all pages are worn, and made so here.
abbrev pub archive_row : List ℕ → Row
archive_row bs k = cond (nat_lt k (pages_in (length bs))) (Some (worn (made k) (page_of bs k))) None
