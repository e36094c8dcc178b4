use Rattle.std.specs.Prelude.{◌≡◌, ◌%◌, length}
use Rattle.desk.specs.declared.books.Books.{Books}

-- Each book is a whole number of pages of 512 bytes.
abbrev pub WholeBooks : Books → Type 0
WholeBooks b = (length b.batch.items % 512 ≡ 0) × (length b.fees.items % 512 ≡ 0) × (length b.archive.items % 512 ≡ 0)
