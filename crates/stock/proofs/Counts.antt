-- Sums over the places of a page.
use Rattle.std.proofs.Common.{◌≡◌, ℕ, suc, ◌+◌, ◌*◌, ◌^◌, ◌<◌, ◌≤◌, List, [], get_or, Some, None, Ok, Err, sym, ap, ◌∙◌, arith}
use Rattle.std.specs.Simd.{first_chunks}
use Rattle.std.proofs.lemmas.Bool.{cond-true, lt-ltb}
use Rattle.records.specs.Layout.{record_in}
use Rattle.records.proofs.Places.{chunk_at}
use Rattle.stock.specs.declared.book.Book.{Book}
use Rattle.stock.specs.declared.tally.Tally.{Tally}
use Rattle.stock.specs.Entries.{Entry, entry_of, used_of, malformed_of, amount_of}
use Rattle.stock.specs.Tallies.{entry_in, entry_at, sum_to, tally_more, tally_of}

-- one place more
pub sum_more : (f : ℕ → ℕ) (n a b : ℕ) → a ≡ sum_to f n → b ≡ f n → a + b ≡ sum_to f (n + 1)
sum_more f n a b e h = let s : suc n ≡ n + 1 = omega arith in (λ i. e i + h i) ∙ ap (sum_to f) s

-- What has been counted after i places.
pub record Counted (book : Book) (page : List ℕ) (i : ℕ) (t : Tally) : Type 0 where
  pub used : t.used ≡ sum_to (λ k. used_of (entry_at book page k)) i
  pub malformed : t.malformed ≡ sum_to (λ k. malformed_of (entry_at book page k)) i
  pub amount : t.amount ≡ sum_to (λ k. amount_of (entry_at book page k)) i
  pub few_used : t.used ≤ i
  pub few_malformed : t.malformed ≤ i
  pub small : t.amount ≤ i * 18446744073709551615

one_used : (e : Entry) → used_of e ≤ 1
one_used (Ok None) = omega arith
one_used (Ok (Some a)) = omega arith
one_used (Err m) = omega arith

one_malformed : (e : Entry) → malformed_of e ≤ 1
one_malformed (Ok None) = omega arith
one_malformed (Ok (Some a)) = omega arith
one_malformed (Err m) = omega arith

-- the record of a place that the page has
entry_here : (book : Book) (page : List ℕ) (i : ℕ) (e : Entry) → i < 16 → e ≡ entry_of book (get_or (first_chunks 32 16 page) i []) → e ≡ entry_at book page i
entry_here book page i e h f =
    f ∙ ap (entry_of book) (chunk_at 32 16 page i [] h)
    ∙ ap (entry_in book) (sym (cond-true _ (Some (record_in page i)) None (lt-ltb i 16 h)))

pub counted_more : (book : Book) (page : List ℕ) (i : ℕ) (t t' : Tally) (e : Entry) → Counted book page i t → i < 16 → e ≡ entry_of book (get_or (first_chunks 32 16 page) i []) → t' ≡ tally_more t e → t'.amount < t.amount + 2 ^ 64 → Counted book page (i + 1) t'
counted_more book page i t t' e c h f g b =
    let here = entry_here book page i e h f in
    let u = ap (λ (x : Tally). x.used) g in
    let m = ap (λ (x : Tally). x.malformed) g in
    let a = ap (λ (x : Tally). x.amount) g in
    let p = one_used e in
    let q = one_malformed e in record {
      used = u ∙ sum_more (λ k. used_of (entry_at book page k)) i _ _ c.used (ap used_of here);
      malformed = m ∙ sum_more (λ k. malformed_of (entry_at book page k)) i _ _ c.malformed (ap malformed_of here);
      amount = a ∙ sum_more (λ k. amount_of (entry_at book page k)) i _ _ c.amount (ap amount_of here);
      few_used = omega arith;
      few_malformed = omega arith;
      small = omega arith;
    }

pub counted_all : (book : Book) (page : List ℕ) (i : ℕ) (t : Tally) → Counted book page i t → i ≡ 16 → t ≡ tally_of book page
unfolding tally_of
counted_all book page i t c e = λ j. record {
  used = (c.used ∙ ap (sum_to (λ k. used_of (entry_at book page k))) e) j;
  malformed = (c.malformed ∙ ap (sum_to (λ k. malformed_of (entry_at book page k))) e) j;
  amount = (c.amount ∙ ap (sum_to (λ k. amount_of (entry_at book page k))) e) j;
}
