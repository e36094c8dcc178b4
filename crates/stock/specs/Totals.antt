use Rattle.std.specs.Prelude.{ℕ, ◌^◌, Bool, true, false, cond, List, Some, None, Ok, Err, sum_by, Option, Result, nat_lt}
use Rattle.page.specs.declared.refusal.Refusal.{Refusal}
use Rattle.stock.specs.declared.book.Book.{Book}
use Rattle.stock.specs.declared.book.Book.TheVariants.{Batch, Fee, Archive}
use Rattle.stock.specs.declared.line.Line.{Line}
use Rattle.stock.specs.declared.tally.Tally.{Tally}
use Rattle.stock.specs.declared.sums.Measure.{Measure}
use Rattle.stock.specs.declared.sums.Measure.TheVariants.{Pages, Records, Malformed, Cents, Refusals}

-- What a page counts for in each measure: where it was read, and where that was refused.
abbrev pub counts : Measure → Result Tally Refusal → ℕ
counts Pages f = 1
counts Records (Ok t) = t.used
counts Records (Err e) = 0
counts Malformed (Ok t) = t.malformed
counts Malformed (Err e) = 0
counts Cents (Ok t) = t.amount
counts Cents (Err e) = 0
counts Refusals (Ok t) = 0
counts Refusals (Err e) = 1

abbrev pub measured : Measure → Line → ℕ
measured m line = counts m line.found

abbrev pub same_book : Book → Book → Bool
same_book Batch Batch = true
same_book Batch Fee = false
same_book Batch Archive = false
same_book Fee Batch = false
same_book Fee Fee = true
same_book Fee Archive = false
same_book Archive Batch = false
same_book Archive Fee = false
same_book Archive Archive = true

abbrev pub share_of : Book → Measure → Line → ℕ
share_of b m line = cond (same_book line.book b) (measured m line) 0

-- The sum over the lines of a book, if it fits 128 bits.
abbrev pub total_of : Book → Measure → List Line → Option ℕ
total_of b m lines = cond (nat_lt (sum_by (share_of b m) lines) (2 ^ 128)) (Some (sum_by (share_of b m) lines)) None
