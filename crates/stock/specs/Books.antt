use Rattle.std.specs.Prelude.{ℕ, ◌-◌, cond, List, codes, nat_lt}
use Rattle.stock.specs.declared.book.Book.{Book}
use Rattle.stock.specs.declared.book.Book.TheVariants.{Batch, Fee, Archive}
use Rattle.stock.specs.declared.book.Layout.{Layout}

-- The book of page k: first the batch book, then the fee book, then the archive.
abbrev pub book_of : Layout → ℕ → Book
book_of l k = cond (nat_lt k l.batch_pages) Batch (cond (nat_lt (k - l.batch_pages) l.fee_pages) Fee Archive)

-- The word for a book.
abbrev pub book_word : Book → List ℕ
book_word Batch = codes "batch"
book_word Fee = codes "fee"
book_word Archive = codes "archive"
