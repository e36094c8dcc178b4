-- As long as fewer pages than frames have a grant out, a full set of pages has a free one.
use Rattle.std.proofs.Common.{◌≡◌, ℕ, zero, suc, ◌<◌, ◌≤◌, Bool, true, false, cond, eqb, ltb, ◌⊎◌, List, [], ◌∷◌, length, Some, None, Option, sym, refl, ap, ◌∙◌, inl, inr, ⊎_elim, arith, lt-ltb, eq-eqb}
use borrow.Author.Tests.{eqb-false}
use Rattle.std.proofs.lemmas.List.{map-id}
use Rattle.std.proofs.lemmas.Bool.{false≢true}
use Rattle.std.proofs.lemmas.Bool.Decides.{nat_tests}
use Rattle.policy.specs.Sets.{member, distinct, Counted, Chosen}
use Rattle.two_q.specs.Lists.{less}
use Rattle.recency.proofs.Pages.{by_bool}
use Rattle.policy.proofs.Counts as counts
use Rattle.policy.proofs.Counts.{length-less}
use Rattle.book.specs.Book.{Book, grants, held, held_below}
use Rattle.turns.specs.Turns.{free}
use Rattle.published.specs.Fixings.{Fixing}

distinct-less : (p : ℕ) (xs : List ℕ) → distinct xs ≡ true → distinct (less p xs) ≡ true
distinct-less p xs h = ap distinct (sym (map-id (less p xs))) ∙ counts.distinct-less (λ (x : ℕ). x) p xs (ap distinct (map-id xs) ∙ h)

out-distinct : (p r : ℕ) (xs : List ℕ) → distinct xs ≡ true → member r (less p xs) ≡ cond (eqb p r) false (member r xs)
out-distinct p r xs h = ap (member r) (sym (map-id (less p xs))) ∙ counts.out-distinct (λ (x : ℕ). x) p r xs (ap distinct (map-id xs) ∙ h) ∙ ap (λ (ys : List ℕ). cond (eqb p r) false (member r ys)) (map-id xs)

-- pages that are below n and have a grant out, each once, are no more than are held
held-most : (b : Book) (n : ℕ) (xs : List ℕ) → distinct xs ≡ true → ((q : ℕ) → member q xs ≡ true → (q < n) × (0 < grants b q)) → length xs ≤ held_below n b
held-most b zero [] d h = omega arith
held-most b zero (x ∷ xs) d h = absurd (let z = (h x (ap (λ (t : Bool). cond t true (member x xs)) (eq-eqb x x refl))).0 in omega arith)
held-most b (suc n) xs d h =
    by_bool (member n xs)
    (λ m. let l = length-less n xs m in
    let one : ◌≡◌ {A = ℕ} (cond (ltb 0 (grants b n)) 1 0) 1 = ap (λ (t : Bool). cond t 1 0) (lt-ltb 0 (grants b n) (h n m).1) in
    let i = held-most b n (less n xs) (distinct-less n xs d) (λ q k. below q (was q k).0 (h q (was q k).1)) in
    omega arith)
    (λ m. let i = held-most b n xs d (λ q k. below q (other q m k) (h q k)) in omega arith)
  where
    below : (q : ℕ) → eqb n q ≡ false → (q < suc n) × (0 < grants b q) → (q < n) × (0 < grants b q)
    below q e k = let ne = eqb-false n q e in let l = k.0 in (omega arith, k.1)

    was : (q : ℕ) → member q (less n xs) ≡ true → (eqb n q ≡ false) × (member q xs ≡ true)
    was q k = go (eqb n q) refl (sym (out-distinct n q xs d) ∙ k)
      where
        go : (t : Bool) → eqb n q ≡ t → cond t false (member q xs) ≡ true → (eqb n q ≡ false) × (member q xs ≡ true)
        go true e k = absurd (false≢true k)
        go false e k = (e, k)

    other : (q : ℕ) → member n xs ≡ false → member q xs ≡ true → eqb n q ≡ false
    other q m k = by_bool (eqb n q) (λ e. absurd (false≢true (sym m ∙ same e ∙ k))) (λ e. e)
      where
        same : eqb n q ≡ true → member n xs ≡ member q xs
        same e = grind (arith, nat_tests)

-- a list of pages has a free one, or each has a grant out
some_or_none : (b : Book) (xs : List ℕ) → ((q : ℕ) × (member q xs ≡ true) × (free b q ≡ true)) ⊎ ((q : ℕ) → member q xs ≡ true → 0 < grants b q)
some_or_none b [] = inr (λ q h. absurd (false≢true h))
some_or_none b (x ∷ xs) =
    by_bool (free b x)
    (λ e. inl (x, ap (λ (t : Bool). cond t true (member x xs)) (eq-eqb x x refl), e))
    (λ e. ⊎_elim (λ k. inl (k.0, later k.0 k.1, k.2)) (λ k. inr (λ q m. all e k q m)) (some_or_none b xs))
  where
    later : (q : ℕ) → member q xs ≡ true → member q (x ∷ xs) ≡ true
    later q h = by_bool (eqb x q) (λ e. rw e) (λ e. rw e h)

    all : free b x ≡ false → ((q : ℕ) → member q xs ≡ true → 0 < grants b q) → (q : ℕ) → member q (x ∷ xs) ≡ true → 0 < grants b q
    all e k q m = let i = k q in grind (arith, nat_tests)

pub free_one : (b : Book) (s : ℕ → Bool) (n : ℕ) → ((q : ℕ) → 0 < grants b q → q < b.size) → Counted s n → held b < n → (q : ℕ) × (s q ≡ true) × (free b q ≡ true)
free_one b s n within c l =
    ⊎_elim
    (λ k. (k.0, c.3 k.0 ∙ k.1, k.2))
    (λ k. absurd (let m = held-most b b.size c.0 c.1 (λ q h. (within q (k q h), k q h)) in let e = c.2 in omega arith))
    (some_or_none b c.0)

-- some resident page is free where the page to be fixed is not resident and there are as many resident
-- pages as frames
abbrev pub SomeFree : ℕ → (ℕ → Bool) → Fixing → Type 0
SomeFree bound resident f = resident f.page ≡ false → (n : ℕ) → Counted resident n → bound ≤ n → (q : ℕ) × (resident q ≡ true) × (f.free q ≡ true)

-- a choice among listed pages, of which some is resident, is a resident page
pub chosen-one : (resident free : ℕ → Bool) (listed : List ℕ) (o : Option ℕ) → ((q : ℕ) → member q listed ≡ cond (resident q) (free q) false) → (q : ℕ) × (resident q ≡ true) × (free q ≡ true) → Chosen resident listed o → (y : ℕ) × (o ≡ Some y) × (resident y ≡ true)
chosen-one resident free listed None exact r h =
    let l : member r.0 listed ≡ true = exact r.0 ∙ (λ i. cond (r.1 i) (r.2 i) false) in
    absurd (false≢true (sym (h r.0 l) ∙ r.1))
chosen-one resident free listed (Some y) exact r h = (y, refl, h.1)
