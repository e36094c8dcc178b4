use Rattle.std.specs.Prelude.{ℕ, zero, suc, ◌+◌, List, Some, None, Ok, Option}
use Rattle.records.specs.Layout.{place_of}
use Rattle.stock.specs.declared.book.Book.{Book}
use Rattle.stock.specs.declared.tally.Tally.{Tally}
use Rattle.stock.specs.Entries.{Entry, entry_of, used_of, malformed_of, amount_of}

-- One record more.
abbrev pub tally_more : Tally → Entry → Tally
tally_more t e = record { used = t.used + used_of e; malformed = t.malformed + malformed_of e; amount = t.amount + amount_of e }

abbrev pub entry_in : Book → Option (List ℕ) → Entry
entry_in book None = Ok None
entry_in book (Some bs) = entry_of book bs

-- The entry at a place of a page.
abbrev pub entry_at : Book → List ℕ → ℕ → Entry
entry_at book page i = entry_in book (place_of page i)

-- The sum of what the first n places give.
abbrev pub sum_to : (ℕ → ℕ) → ℕ → ℕ
sum_to f zero = 0
sum_to f (suc n) = sum_to f n + f n

-- What stands on the 16 places of a page.
unfoldable pub tally_of : Book → List ℕ → Tally
tally_of book page = record {
  used = sum_to (λ i. used_of (entry_at book page i)) 16;
  malformed = sum_to (λ i. malformed_of (entry_at book page i)) 16;
  amount = sum_to (λ i. amount_of (entry_at book page i)) 16;
}
