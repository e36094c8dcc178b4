-- Where the record of a batch stands.
use Rattle.std.specs.Prelude.{◌≡◌, ℕ, zero, suc, ◌-◌, Bool, false, cond, List, Some, None, Ok, Err, Option, Result, ◌==◌}
use Rattle.page.specs.declared.refusal.Refusal.{Refusal}
use Rattle.device.specs.declared.device.Device as device
use Rattle.policy.specs.declared.policy.Policy as policy
use Rattle.book.specs.Book.{Book, refusal}
use Rattle.book.specs.Bytes.{bytes_at}
use Rattle.book.specs.Call.Call.{Fix}
use Rattle.book.specs.declared.grant.Kind.TheVariants.{Reading}
use Rattle.records.specs.Layout.{batch_of, fee_of, record_in}
use Rattle.records.specs.declared.record.Record.{Record}
use Rattle.records.specs.declared.record.Record.TheVariants.{Empty, Entered, Settled}
use Rattle.records.specs.declared.malformed.Malformed.{Malformed}
use Rattle.pool.specs.Meaning.{book}
use Rattle.pool.specs.declared.pool.Pool.{Pool}
use Rattle.ledger.specs.declared.finding.Kept.{Kept}
use Rattle.ledger.specs.declared.finding.Kept.TheVariants.{Batches, Fees}
use Rattle.ledger.specs.declared.finding.Shelf.{Shelf}
use Rattle.ledger.specs.declared.spot.Spot.{Spot}
use Rattle.ledger.specs.Reading.{after_reading}
use Rattle.ledger.specs.Settled.{SameGrants}

-- The number of the batch that a record is of, if it is in use.
abbrev pub of_record : {T : Type 0} → (T → ℕ) → Result (Record T) Malformed → Option ℕ
of_record number (Ok Empty) = None
of_record number (Ok (Entered x)) = Some (number x)
of_record number (Ok (Settled x)) = Some (number x)
of_record number (Err e) = None

abbrev pub number_in : Kept → List ℕ → Option ℕ
number_in Batches bytes = of_record (λ b. b.number) (batch_of bytes)
number_in Fees bytes = of_record (λ f. f.batch) (fee_of bytes)

-- Whether the record at a place of a page is of a number.
abbrev pub is_of : Option ℕ → ℕ → Bool
is_of None number = false
is_of (Some n) number = n == number

abbrev pub stands_at : Kept → List ℕ → (place number : ℕ) → Bool
stands_at kept page place number = is_of (number_in kept (record_in page place)) number

-- The first of the n places from one on whose record is of a number; and of the 16 places of a page.
unfoldable pub first_place : Kept → List ℕ → (number place n : ℕ) → Option ℕ
first_place kept page number place zero = None
first_place kept page number place (suc n) = cond (stands_at kept page place number) (Some place) (first_place kept page number (suc place) n)

abbrev pub place_in : Kept → List ℕ → ℕ → Option ℕ
place_in kept page number = first_place kept page number 0 16

-- The first place on a page of a book, where its fix for reading is accepted.
abbrev pub unless_refused : Option Refusal → Option ℕ → Option ℕ
unless_refused None place = place
unless_refused (Some r) place = None

abbrev pub found_on : Book → Kept → (page number : ℕ) → Option ℕ
found_on b kept page number = unless_refused (refusal b (Fix Reading page)) (place_in kept (bytes_at (b.pages page)) number)

-- The book once a page has been read, or its fix refused.
abbrev pub once_read : Book → ℕ → Book
once_read b page = after_reading b (refusal b (Fix Reading page))

-- A search of the n pages from a first one on: each is read in turn, up to the first that has the number.
abbrev pub found_or : (page : ℕ) → Option ℕ → Book → Option Spot × Book → Option Spot × Book
found_or page (Some place) b rest = (Some (record { page = page; place = place }), b)
found_or page None b rest = rest

abbrev pub search : Book → Kept → (number first n : ℕ) → Option Spot × Book
search b kept number first zero = (None, b)
search b kept number first (suc n) = found_or first (found_on b kept first number) (once_read b first) (search (once_read b first) kept number (suc first) n)

-- A search leaves every page and every grant as it was.
pub record Undisturbed {D P : Type 0} {d : device.Ghosts D} {p : policy.Ghosts P} (pool pool' : Pool D P d p) : Type 0 where
  pub grants : SameGrants (book pool) (book pool')
  pub pages : (q : ℕ) → (book pool').pages q ≡ (book pool).pages q

-- The place is the page's, and the book is as a reading of the page leaves it.
pub record DidFindOn {D P : Type 0} {d : device.Ghosts D} {p : policy.Ghosts P} (pool : Pool D P d p) (kept : Kept) (page number : ℕ) (r : Option ℕ) (pool' : Pool D P d p) : Type 0 where
  pub undisturbed : Undisturbed pool pool'
  pub answer : r ≡ found_on (book pool) kept page number
  pub next : book pool' ≡ once_read (book pool) page

-- The search of the pages of a shelf, from its first up to its end.
abbrev pub shelf_search : Book → Shelf → ℕ → Option Spot × Book
shelf_search b s number = search b s.kept number s.first (s.end - s.first)

-- The answer and the next book are those of the search of the shelf.
pub record DidFind {D P : Type 0} {d : device.Ghosts D} {p : policy.Ghosts P} (pool : Pool D P d p) (shelf : Shelf) (number : ℕ) (r : Option Spot) (pool' : Pool D P d p) : Type 0 where
  pub undisturbed : Undisturbed pool pool'
  pub answer : r ≡ (shelf_search (book pool) shelf number).0
  pub next : book pool' ≡ (shelf_search (book pool) shelf number).1
