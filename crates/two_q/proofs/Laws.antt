-- What the calls leave of the set of resident pages and its size.
use Rattle.std.proofs.Common.{◌≡◌, ℕ, ◌+◌, ◌<◌, ◌≤◌, Bool, true, false, cond, eqb, ltb, List, [], ◌∷◌, length, Some, None, Option, sym, refl, ap, ◌∙◌, arith, le-ltb, lt-ltb}
use Rattle.std.proofs.lemmas.Bool.{false≢true}
use Rattle.std.proofs.lemmas.Bool.Decides.{nat_tests}
use Rattle.std.specs.Option.{option_or}
use Rattle.recency.proofs.Pages.{by_bool}
use Rattle.policy.specs.Once.{not_counted}
use Rattle.policy.specs.Sets.{member, count, Chosen, entered, grown}
use Rattle.policy.proofs.Admissions.{Leaves, turned}
use Rattle.policy.proofs.Counts.{length-less, out_once}
use Rattle.two_q.specs.Lists.{less, moved, nearest_tail}
use Rattle.two_q.specs.Model.{Model, kin, resident, size, touched, chosen, forgotten, gone, come, admitted}
use Rattle.two_q.proofs.Counts.{length_moved, gone-bound}

held-less : (p r : ℕ) (xs : List ℕ) → member p xs ≡ true → cond (eqb p r) true (member r (less p xs)) ≡ member r xs
held-less p r [] h = absurd (false≢true h)
held-less p r (x ∷ xs) h = let i = held-less p r xs in grind (arith, nat_tests)

pub member-moved : (p r : ℕ) (xs : List ℕ) → member r (moved p xs) ≡ member r xs
member-moved p r xs = by_bool (member p xs) (λ e. rw e (held-less p r xs e)) (λ e. rw e)

-- a hit leaves the resident set and its size as they are
pub touched-resident : (m : Model) (p r : ℕ) → resident (touched m p) r ≡ resident m r
touched-resident m p r = rw (member-moved p r m.am)

pub touched-size : (m : Model) (p : ℕ) → size (touched m p) ≡ size m
touched-size m p = rw (length_moved p m.am)

-- a page that is chosen is in the list and listed
tail-some : (l xs : List ℕ) (p : ℕ) → nearest_tail l xs ≡ Some p → (member p l ≡ true) × (member p xs ≡ true)
tail-some l [] p e = let z : ◌≡◌ {A = ℕ} 0 1 = cc in absurd (omega arith)
tail-some l (x ∷ xs) p e = step (nearest_tail l xs) (member x l) refl refl e (tail-some l xs p)
  where
    later : member p xs ≡ true → member p (x ∷ xs) ≡ true
    later h = grind (arith, nat_tests)

    here : x ≡ p → member p (x ∷ xs) ≡ true
    here h = grind (arith, nat_tests)

    step : (o : Option ℕ) (b : Bool) → nearest_tail l xs ≡ o → member x l ≡ b → option_or o (cond b (Some x) None) ≡ Some p
        → (nearest_tail l xs ≡ Some p → (member p l ≡ true) × (member p xs ≡ true)) → (member p l ≡ true) × (member p (x ∷ xs) ≡ true)
    step (Some y) b u t q f = let h = f (u ∙ q) in (h.0, later h.1)
    step None true u t q f = let s : x ≡ p = cc in (rw (← s) t, here s)
    step None false u t q f = let z : ◌≡◌ {A = ℕ} 0 1 = cc in absurd (omega arith)

-- where none is chosen, no page of the list is listed
tail_none : (l xs : List ℕ) → nearest_tail l xs ≡ None → (r : ℕ) → member r xs ≡ true → member r l ≡ false
tail_none l [] e r h = absurd (false≢true h)
tail_none l (x ∷ xs) e r h = step (nearest_tail l xs) (member x l) refl refl e (tail_none l xs)
  where
    all : member x l ≡ false → (member r xs ≡ true → member r l ≡ false) → member r l ≡ false
    all t f = grind (arith, nat_tests)

    step : (o : Option ℕ) (b : Bool) → nearest_tail l xs ≡ o → member x l ≡ b → option_or o (cond b (Some x) None) ≡ None
        → (nearest_tail l xs ≡ None → (r : ℕ) → member r xs ≡ true → member r l ≡ false) → member r l ≡ false
    step (Some y) b u t q f = let z : ◌≡◌ {A = ℕ} 0 1 = cc in absurd (omega arith)
    step None true u t q f = let z : ◌≡◌ {A = ℕ} 0 1 = cc in absurd (omega arith)
    step None false u t q f = all t (f u r)

pick : (s : ℕ → Bool) (l xs ys : List ℕ) → ((r : ℕ) → s r ≡ cond (member r xs) true (member r ys)) → (o u : Option ℕ)
    → nearest_tail l xs ≡ o → nearest_tail l ys ≡ u → Chosen s l (option_or o u)
pick s l xs ys h (Some p) u e f = let t = tail-some l xs p e in (t.0, h p ∙ rw t.1)
pick s l xs ys h None (Some p) e f = let t = tail-some l ys p f in let a = t.1 in let b = h p in (t.0, grind (arith, nat_tests))
pick s l xs ys h None None e f = λ r t. let a = tail_none l xs e r in let b = tail_none l ys f r in let c = h r in grind (arith, nat_tests)

either_way : (a b : Bool) → cond a true b ≡ cond b true a
either_way true true = refl
either_way true false = refl
either_way false true = refl
either_way false false = refl

-- the choice is a listed resident page, or none where no listed page is resident
pub chosen-right : (m : Model) (l : List ℕ) → Chosen (resident m) l (chosen m l)
chosen-right m l =
    by_bool (ltb (kin m) (length m.a1in))
    (λ t. rw t (pick (resident m) l m.a1in m.am (λ r. either_way (member r m.am) (member r m.a1in)) _ _ refl refl))
    (λ t. rw t (pick (resident m) l m.am m.a1in (λ r. refl) _ _ refl refl))

-- the leaving page goes out, and no other
gone-resident : (m : Model) (q r : ℕ) → count r m.am + count r m.a1in ≤ 1 → resident m q ≡ true → resident (gone m (Some q)) r ≡ cond (eqb q r) false (resident m r)
gone-resident m q r h e =
    let a = not_counted r m.am in
    let b = not_counted r m.a1in in
    let o = out_once q r m.am (omega arith) in
    let u = out_once q r m.a1in (omega arith) in
    by_bool (member q m.am) (λ t. rw t (grind (arith, nat_tests))) (λ t. let w : member q m.a1in ≡ true = rw t at e in rw t (grind (arith, nat_tests)))

gone-size : (m : Model) (q : ℕ) → resident m q ≡ true → size (gone m (Some q)) + 1 ≡ size m
gone-size m q e =
    by_bool (member q m.am) (λ t. rw t (omega (arith, length-less q m.am t))) (λ t. rw t (omega (arith, length-less q m.a1in (rw t at e))))

come-resident : (m : Model) (k : Bool) (p r : ℕ) → resident (come m k p) r ≡ cond (eqb p r) true (resident m r)
come-resident m true p r = grind (arith, nat_tests)
come-resident m false p r = grind (arith, nat_tests)

come-size : (m : Model) (k : Bool) (p : ℕ) → size (come m k p) ≡ size m + 1
come-size m true p = omega arith
come-size m false p = omega arith

-- an admission puts the page in and the leaving one out
pub none-resident : (m : Model) (p r : ℕ) → resident (admitted m p None) r ≡ entered (resident m) p None r
none-resident m p r = come-resident (forgotten m p) (member p m.a1out) p r ∙ rw (turned p r)

pub some-resident : (m : Model) (p g r : ℕ) → count r m.am + count r m.a1in ≤ 1 → resident m g ≡ true → resident (admitted m p (Some g)) r ≡ entered (resident m) p (Some g) r
some-resident m p g r h e =
    come-resident (gone (forgotten m p) (Some g)) (member p m.a1out) p r
    ∙ ap (λ (b : Bool). cond (eqb p r) true b) (gone-resident (forgotten m p) g r h e)
    ∙ rw (turned p r, turned g r)

pub none-size : (m : Model) (p : ℕ) → size (admitted m p None) ≡ grown (size m) None
none-size m p = come-size (forgotten m p) (member p m.a1out) p

pub some_size : (m : Model) (p g : ℕ) → resident m g ≡ true → size (admitted m p (Some g)) ≡ grown (size m) (Some g)
some_size m p g e = come-size (gone (forgotten m p) (Some g)) (member p m.a1out) p ∙ gone-size (forgotten m p) g e

come-bound : (m : Model) (k : Bool) (p : ℕ) → (come m k p).bound ≡ m.bound
come-bound m true p = refl
come-bound m false p = refl

pub some-bound : (m : Model) (p g : ℕ) → (admitted m p (Some g)).bound ≡ m.bound
some-bound m p g = come-bound (gone (forgotten m p) (Some g)) (member p m.a1out) p ∙ gone-bound (forgotten m p) g

-- the same of a leaving page or none
pub admitted-resident : (m : Model) (p : ℕ) (l : Option ℕ) → ((r : ℕ) → count r m.am + count r m.a1in ≤ 1) → Leaves (resident m) (size m) m.bound l → (r : ℕ) → resident (admitted m p l) r ≡ entered (resident m) p l r
admitted-resident m p None o h r = none-resident m p r
admitted-resident m p (Some q) o h r = some-resident m p q r (o r) h

pub admitted-size : (m : Model) (p : ℕ) (l : Option ℕ) → Leaves (resident m) (size m) m.bound l → size (admitted m p l) ≡ grown (size m) l
admitted-size m p None h = none-size m p
admitted-size m p (Some q) h = some_size m p q h

-- which list is preferred: `xs` and `ys` are the two lists as they were looked at
pub prefers_a1in : (m : Model) (l xs ys : List ℕ) (r : Option ℕ) → kin m < length m.a1in → r ≡ option_or (nearest_tail l xs) (nearest_tail l ys) → xs ≡ m.a1in → ys ≡ m.am → r ≡ chosen m l
prefers_a1in m l xs ys r h e p q = e ∙ (λ i. option_or (nearest_tail l (p i)) (nearest_tail l (q i))) ∙ sym (rw (lt-ltb (kin m) (length m.a1in) h))

pub prefers_am : (m : Model) (l xs ys : List ℕ) (r : Option ℕ) → length m.a1in ≤ kin m → r ≡ option_or (nearest_tail l xs) (nearest_tail l ys) → xs ≡ m.am → ys ≡ m.a1in → r ≡ chosen m l
prefers_am m l xs ys r h e p q = e ∙ (λ i. option_or (nearest_tail l (p i)) (nearest_tail l (q i))) ∙ sym (rw (le-ltb (kin m) (length m.a1in) h))
