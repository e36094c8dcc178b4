-- A search, page by page.
use Rattle.std.proofs.Common.{◌≡◌, ℕ, suc, ◌+◌, ◌-◌, ◌<◌, ◌≤◌, Some, None, Option, sym, refl, ap, ◌∙◌, arith}
use Rattle.device.specs.declared.device.Device as device
use Rattle.policy.specs.declared.policy.Policy as policy
use Rattle.book.specs.Book.{Book}
use Rattle.pool.specs.Meaning.{book}
use Rattle.pool.specs.declared.pool.Pool.{Pool}
use Rattle.ledger.specs.Finding.{Undisturbed, DidFindOn, DidFind, found_on, found_or, once_read, search, shelf_search}
use Rattle.ledger.specs.declared.finding.Kept.{Kept}
use Rattle.ledger.specs.declared.finding.Shelf.{Shelf}
use Rattle.ledger.specs.declared.spot.Spot.{Spot}
use Rattle.ledger.proofs.Undisturbing.{at_rest, both}

module _ (kept : Kept) (number : ℕ) where
  -- the next page is read, and decides
  first_read : (b : Book) (k n : ℕ) (o : Option ℕ) → k < n → o ≡ found_on b kept k number → search b kept number k (n - k) ≡ found_or k o (once_read b k) (search (once_read b k) kept number (k + 1) (n - (k + 1)))
  first_read b k n o l h =
      let e : n - k ≡ suc (n - (k + 1)) = omega arith in
      let s : suc k ≡ k + 1 = omega arith in
      ap (search b kept number k) e
      ∙ ap (λ (x : Option ℕ). found_or k x (once_read b k) (search (once_read b k) kept number (suc k) (n - (k + 1)))) (sym h)
      ∙ ap (λ (j : ℕ). found_or k o (once_read b k) (search (once_read b k) kept number j (n - (k + 1)))) s

  -- no page is left
  none_left : (b : Book) (k n : ℕ) → n ≤ k → search b kept number k (n - k) ≡ (None, b)
  none_left b k n l =
      let e : n - k ≡ 0 = omega arith in
      ap (search b kept number k) e

module _ {D P : Type 0} {d : device.Ghosts D} {p : policy.Ghosts P} (shelf : Shelf) (number : ℕ) where
  -- the search comes to that of the pages that are left
  pub record Searched (pool mid : Pool D P d p) (page : ℕ) : Type 0 where
    pub undisturbed : Undisturbed pool mid
    pub rest : shelf_search (book pool) shelf number ≡ search (book mid) shelf.kept number page (shelf.end - page)

  pub not_begun : (pool : Pool D P d p) → Searched pool pool shelf.first
  not_begun pool = record { undisturbed = at_rest pool; rest = refl }

  after_page : (pool mid pool' : Pool D P d p) (page : ℕ) (o : Option ℕ) → page < shelf.end → Searched pool mid page → DidFindOn mid shelf.kept page number o pool' → shelf_search (book pool) shelf number ≡ found_or page o (book pool') (search (book pool') shelf.kept number (page + 1) (shelf.end - (page + 1)))
  after_page pool mid pool' page o l h f =
      h.rest
      ∙ first_read shelf.kept number (book mid) page shelf.end o l f.answer
      ∙ ap (λ (b : Book). found_or page o b (search b shelf.kept number (page + 1) (shelf.end - (page + 1)))) (sym f.next)

  pub not_there : (pool mid pool' : Pool D P d p) (page : ℕ) → page < shelf.end → Searched pool mid page → DidFindOn mid shelf.kept page number None pool' → Searched pool pool' (page + 1)
  not_there pool mid pool' page l h f = record {
    undisturbed = both pool mid pool' h.undisturbed f.undisturbed;
    rest = after_page pool mid pool' page None l h f;
  }

  pub found_there : (pool mid pool' : Pool D P d p) (page place : ℕ) → page < shelf.end → Searched pool mid page → DidFindOn mid shelf.kept page number (Some place) pool' → DidFind pool shelf number (Some (record { page = page; place = place })) pool'
  found_there pool mid pool' page place l h f =
      let e = after_page pool mid pool' page (Some place) l h f in
      record {
        undisturbed = both pool mid pool' h.undisturbed f.undisturbed;
        answer = sym (ap (λ (x : Option Spot × Book). x.0) e);
        next = sym (ap (λ (x : Option Spot × Book). x.1) e);
      }

  pub nowhere : (pool pool' : Pool D P d p) (page : ℕ) → shelf.end ≤ page → Searched pool pool' page → DidFind pool shelf number None pool'
  nowhere pool pool' page l h =
      let e = h.rest ∙ none_left shelf.kept number (book pool') page shelf.end l in
      record {
        undisturbed = h.undisturbed;
        answer = sym (ap (λ (x : Option Spot × Book). x.0) e);
        next = sym (ap (λ (x : Option Spot × Book). x.1) e);
      }
