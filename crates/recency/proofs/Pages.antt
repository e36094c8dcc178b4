-- What a recency list says by page and not by place, over any record that has a page.
use Rattle.std.proofs.Common.{◌≡◌, ℕ, zero, suc, ◌+◌, ◌-◌, ◌<◌, ◌≤◌, min, Bool, true, false, cond, eqb, List, [], ◌∷◌, map, length, get_or, take, set, is_some, Some, None, Option, sym, refl, ap, ◌∙◌, ⊎_elim, arith}
use Rattle.std.specs.Option.{option_map, option_map_or, ok_or}
use Rattle.std.specs.Result.{result_ok}
use Rattle.std.specs.List.{slice_get, list_any}
use Rattle.std.proofs.lemmas.List.{take-take, take_all, length-take}
use Rattle.std.proofs.lemmas.Bool.{false≢true, cases_lt}
use Rattle.std.proofs.lemmas.Bool.Decides.{nat_tests}
use Rattle.recency.specs.Recent.{place_of, without, to_head, member, found, less, moved, renewed}
use Rattle.recency.proofs.Laws.{to_head_is}

-- cases of a test, in an answer
pub by_bool : {P : Type 0} (t : Bool) → (t ≡ true → P) → (t ≡ false → P) → P
by_bool true f g = f refl
by_bool false f g = g refl

-- std's test of a list by its elements
pub any_member : (p : ℕ) (xs : List ℕ) → list_any (λ y. eqb y p) xs ≡ member p xs
any_member p [] = refl
any_member p (x ∷ xs) = let i = any_member p xs in grind (arith, nat_tests)

some_mapped : (o : Option ℕ) → is_some (option_map suc o) ≡ is_some o
some_mapped None = refl
some_mapped (Some i) = refl

-- a page has a place exactly if it is in the list
pub placed : (p : ℕ) (xs : List ℕ) → is_some (place_of p xs) ≡ member p xs
placed p [] = refl
placed p (x ∷ xs) = by_bool (eqb x p) (λ e. rw e) (λ e. rw e (some_mapped (place_of p xs) ∙ placed p xs))

module _ {X : Type 0} (key : X → ℕ) where
  -- a page has a record exactly if it is in the list
  pub has_record : (p : ℕ) (xs : List X) → is_some (found key p xs) ≡ member p (map key xs)
  has_record p [] = refl
  has_record p (x ∷ xs) = by_bool (eqb (key x) p) (λ e. rw e) (λ e. rw e (has_record p xs))

  -- what the place of a page says of the list
  pub record At (p i : ℕ) (xs : List X) : Type 0 where
    pub within : i < length xs
    pub has : member p (map key xs) ≡ true
    pub one : found key p xs ≡ slice_get xs i
    pub rest : without xs i ≡ less key p xs
    pub anew : (f : X → X) (d : X) → set xs i (f (get_or xs i d)) ≡ renewed key f p xs

  at_head : (p : ℕ) (x : X) (xs : List X) → eqb (key x) p ≡ true → At p 0 (x ∷ xs)
  at_head p x xs e = record { within = omega arith; has = rw e; one = rw e; rest = rw e; anew = λ f d. rw e }

  at_later : (p : ℕ) (x : X) (i : ℕ) (xs : List X) → eqb (key x) p ≡ false → At p i xs → At p (suc i) (x ∷ xs)
  at_later p x i xs e a = record {
    within = omega (arith, a.within);
    has = rw e a.has;
    one = rw e a.one;
    rest = rw e (ap (λ (t : List X). x ∷ t) a.rest);
    anew = λ f d. rw e (ap (λ (t : List X). x ∷ t) (a.anew f d));
  }

  pub at : (p i : ℕ) (xs : List X) → place_of p (map key xs) ≡ Some i → At p i xs
  at p i [] e = let z : ◌≡◌ {A = ℕ} 0 1 = cc in absurd (omega arith)
  at p i (x ∷ xs) e = step (eqb (key x) p) refl e (λ j. at p j xs)
    where
      later : eqb (key x) p ≡ false → (o : Option ℕ) → option_map suc o ≡ Some i → ((j : ℕ) → o ≡ Some j → At p j xs) → At p i (x ∷ xs)
      later t None q f = let z : ◌≡◌ {A = ℕ} 0 1 = cc in absurd (omega arith)
      later t (Some j) q f = let s : suc j ≡ i = cc in rw (← s) (at_later p x j xs t (f j refl))

      step : (b : Bool) → eqb (key x) p ≡ b → cond b (Some 0) (option_map suc (place_of p (map key xs))) ≡ Some i → ((j : ℕ) → place_of p (map key xs) ≡ Some j → At p j xs) → At p i (x ∷ xs)
      step true t q f = let s : 0 ≡ i = cc in rw (← s) (at_head p x xs t)
      step false t q f = later t (place_of p (map key xs)) q f

  -- what it says that a page is not in the list
  pub record Nowhere (p : ℕ) (xs : List X) : Type 0 where
    pub none : found key p xs ≡ None
    pub same : less key p xs ≡ xs
    pub still : (f : X → X) → renewed key f p xs ≡ xs

  pub nowhere : (p : ℕ) (xs : List X) → member p (map key xs) ≡ false → Nowhere p xs
  nowhere p [] e = record { none = refl; same = refl; still = λ f. refl }
  nowhere p (x ∷ xs) e = step (eqb (key x) p) refl e (nowhere p xs)
    where
      step : (b : Bool) → eqb (key x) p ≡ b → cond b true (member p (map key xs)) ≡ false → (member p (map key xs) ≡ false → Nowhere p xs) → Nowhere p (x ∷ xs)
      step true t h f = absurd (false≢true (sym h))
      step false t h f = let n = f h in record {
        none = rw t n.none;
        same = rw t (ap (λ (u : List X). x ∷ u) n.same);
        still = λ g. rw t (ap (λ (u : List X). x ∷ u) (n.still g));
      }

  pub unplaced : (p : ℕ) (xs : List X) → place_of p (map key xs) ≡ None → Nowhere p xs
  unplaced p xs e = nowhere p xs (sym (placed p (map key xs)) ∙ ap is_some e)

  -- a move by place is one by page
  pub head_moved : (p i : ℕ) (xs : List X) → place_of p (map key xs) ≡ Some i → to_head xs i ≡ moved key p xs
  head_moved p i xs e = let a = at p i xs e in step (found key p xs) refl a
    where
      step : (o : Option X) → found key p xs ≡ o → At p i xs → to_head xs i ≡ option_map_or (λ x. x ∷ less key p xs) o xs
      step None q a = absurd (false≢true (sym (ap is_some q) ∙ has_record p xs ∙ a.has))
      step (Some x) q a = to_head_is xs i x (sym a.one ∙ q) ∙ ap (λ (t : List X). x ∷ t) a.rest

  pub none-moved : (p : ℕ) (xs : List X) → place_of p (map key xs) ≡ None → moved key p xs ≡ xs
  none-moved p xs e = ap (λ (o : Option X). option_map_or (λ x. x ∷ less key p xs) o xs) (unplaced p xs e).none

  -- how long the lists are, and which pages stand in them
  pub length-less : (p : ℕ) (xs : List X) → member p (map key xs) ≡ true → length (less key p xs) + 1 ≡ length xs
  length-less p [] h = absurd (false≢true h)
  length-less p (x ∷ xs) h = let i = length-less p xs in grind (arith, nat_tests)

  pub length_less_le : (p : ℕ) (xs : List X) → length (less key p xs) ≤ length xs
  length_less_le p [] = omega arith
  length_less_le p (x ∷ xs) = let i = length_less_le p xs in grind (arith, nat_tests)

  pub length-renewed : (f : X → X) (p : ℕ) (xs : List X) → length (renewed key f p xs) ≡ length xs
  length-renewed f p [] = refl
  length-renewed f p (x ∷ xs) = let i = length-renewed f p xs in grind (arith, nat_tests)

  pub member-less : (r p : ℕ) (xs : List X) → member r (map key xs) ≡ false → member r (map key (less key p xs)) ≡ false
  member-less r p [] h = refl
  member-less r p (x ∷ xs) h = let i = member-less r p xs in grind (arith, nat_tests)

-- a change below the length of a list is a change of the list
pub take-set : {X : Type 0} (n i : ℕ) (xs : List X) (x : X) → take n (set xs i x) ≡ set (take n xs) i x
take-set zero i xs x = refl
take-set (suc n) i [] x = refl
take-set (suc n) zero (y ∷ ys) x = refl
take-set (suc n) (suc i) (y ∷ ys) x = ap (λ t. y ∷ t) (take-set n i ys x)

-- what is kept of a list that one more record has come to the head of
take_min : {X : Type 0} (k n : ℕ) (xs : List X) → take k (take n xs) ≡ take (min n k) xs
take_min k n xs =
    ⊎_elim
    (λ h. let e : min n k ≡ k = omega arith in rw e (take-take k n xs (omega arith)))
    (λ h. let e : min n k ≡ n = omega arith in rw e (take_all k (take n xs) (omega (arith, length-take n xs))))
    (cases_lt k n)

-- a table of N places, of which `kept` records are kept for one more
pub pushed : {X : Type 0} (N n kept : ℕ) (x : X) (xs ys : List X) → kept ≡ min n (N - 1) → length xs ≡ N
    → (length (take kept xs) < N → ys ≡ x ∷ take kept xs) → (N ≤ length (take kept xs) → ys ≡ take kept xs) → ys ≡ take N (x ∷ take n xs)
pushed zero n kept x xs ys e l done refused = let z : kept ≡ 0 = omega arith in refused (omega arith) ∙ ap (λ k. take k xs) z
pushed (suc m) n kept x xs ys e l done refused =
    let k : kept ≡ min n m = omega arith in
    done (omega (arith, length-take kept xs)) ∙ ap (λ t. x ∷ t) (rw k (sym (take_min m n xs)))

pub ok_of : {X E : Type 0} (o : Option X) (e : E) → result_ok (ok_or o e) ≡ o
ok_of None e = refl
ok_of (Some x) e = refl
