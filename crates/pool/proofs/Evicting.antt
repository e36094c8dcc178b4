-- Room for a page: the one that leaves is written back.
use Rattle.std.proofs.Common.{◌≡◌, ℕ, zero, suc, ◌+◌, ◌<◌, true, false, cond, ltb, List, [], ◌∷◌, ◌++◌, is_some, IfSome, Some, None, Option, sym, refl, ap, ◌∙◌, subst, inl, inr, arith}
use Rattle.std.proofs.lemmas.Bool.{cases_eq, false≢true}
use Rattle.device.specs.declared.device.Device as device
use Rattle.policy.specs.declared.outcome.Outcome.{Outcome}
use Rattle.policy.specs.declared.policy.Policy as policy
use Rattle.book.specs.Book.{Book, first_no, granted, with_grants}
use Rattle.book.specs.declared.grant.Kind.{Kind}
use Rattle.frames.specs.Table.{Frame, frame, page_in, pins, idle}
use Rattle.turns.specs.Turns.{Course, Turn, free}
use Rattle.pool.specs.declared.pool.Pool.{Pool}
use Rattle.pool.specs.declared.vacancy.Vacancy.{Vacancy}
use Rattle.pool.specs.Meaning.{book, course}
use Rattle.pool.specs.Steps.{cleaned, Clean, Left, Vacated, Placed, Fetchable, leaving_of, early, DidBack, DidEvict, DidTake, DidAdmit}
use Rattle.pool.proofs.Places.{with-same, with-other}
use Rattle.pool.proofs.Standing.{settled}

pub leaving-place : (n : ℕ) (F : ℕ → Frame) (bound i : ℕ) (o : Option ℕ) → is_some o ≡ true → Vacated n F bound i o → (i < n) × (o ≡ Some (page_in (F i)))
leaving-place n F bound i None h v = absurd (false≢true h)
leaving-place n F bound i (Some q) h v = (v.0, ap Some (sym v.1))

-- what making room leaves as it was
idle-same : (n : ℕ) (F G : ℕ → Frame) → ((j : ℕ) → cleaned (F j) ≡ cleaned (G j)) → idle n F ≡ idle n G
idle-same zero F G h = refl
idle-same (suc n) F G h =
    ap (λ (l : List ℕ). l ++ cond (ltb 0 (pins (F n).slot)) [] (page_in (F n) ∷ [])) (idle-same n F G h)
    ∙ ap (λ (f : Frame). idle n G ++ cond (ltb 0 (pins f.slot)) [] (page_in f ∷ [])) (h n)

vacated_same : (n n' : ℕ) (F G : ℕ → Frame) (bound bound' i : ℕ) (o : Option ℕ) → n' ≡ n → bound' ≡ bound → ((j : ℕ) → cleaned (G j) ≡ cleaned (F j)) → Vacated n F bound i o → Vacated n' G bound' i o
vacated_same n n' F G bound bound' i None e u h v = (v.0 ∙ sym e, omega (arith, v.1))
vacated_same n n' F G bound bound' i (Some q) e u h v = (omega (arith, v.0), ap page_in (h i) ∙ v.1, ap (λ (f : Frame). pins f.slot) (h i) ∙ v.2)

module _ {D P : Type 0} {d : device.Ghosts D} {p : policy.Ghosts P} where
  clean_at : (pool : Pool D P d p) (v : Vacancy) → (frame pool.frames v.place.index).slot.changed ≡ false → Clean pool v
  clean_at pool v h = go v.leaving
    where
      go : (o : Option ℕ) → IfSome o (λ q. (frame pool.frames v.place.index).slot.changed ≡ false)
      go None = tt
      go (Some q) = h

  pub evicted : (pool pool' : Pool D P d p) (v : Vacancy) → Placed pool v → is_some v.leaving ≡ true → DidBack pool v.place.index pool' → DidEvict pool v pool'
  evicted pool pool' v place some b =
      let n = pool.frames.used in
      let F = frame pool.frames in
      let F' = frame pool'.frames in
      let i = v.place.index in
      let w = leaving-place n F _ i v.leaving some place in
      let here : F' i ≡ cleaned (F i) = b.frames i ∙ with-same F i (cleaned (F i)) in
      let low : i < pool'.frames.used = omega (arith, b.used, w.0) in
      record {
        next = b.next;
        policy = b.policy;
        hits = b.hits;
        fetches = b.fetches;
        used = b.used;
        frames = λ j. elim (cases_eq j i) [
          | inl e ↦ ap (λ (k : ℕ). cleaned (F' k)) e ∙ ap cleaned here ∙ sym (ap (λ (k : ℕ). cleaned (F k)) e)
          | inr ne ↦ ap cleaned (b.frames j ∙ with-other F i (cleaned (F i)) j ne)
        ];
        clean = clean_at pool' v (ap (λ (f : Frame). f.slot.changed) here);
        below = λ q. elim (cases_eq (page_in (F i)) q) [
          | inl e ↦ inr (w.1 ∙ ap Some e, sym (settled pool'.frames.used F' _ _ _ pool'.tied i q low (ap page_in here ∙ e) (ap (λ (f : Frame). f.slot.changed) here)) ∙ ap (λ (x : Book). x.pages q) b.next)
          | inr ne ↦ inl (b.other q (λ e. ne (sym e)))
        ];
      }

  pub still_fetchable : (pool pool' : Pool D P d p) (kind : Kind) (page t : ℕ) (v : Vacancy) → DidEvict pool v pool' → Fetchable pool kind page t v → Fetchable pool' kind page t v
  still_fetchable pool pool' kind page t v e f =
      let F = frame pool.frames in
      let F' = frame pool'.frames in
      let m : p.model pool'.policy ≡ p.model pool.policy = ap p.model e.policy in
      let list : idle pool'.frames.used F' ≡ idle pool.frames.used F = ap (λ (k : ℕ). idle k F') e.used ∙ idle-same pool.frames.used F' F e.frames in
      record {
        early = ap (λ (x : Book). first_no (early x kind page)) e.next ∙ f.early;
        absent = λ j l h. f.absent j (omega (arith, l, e.used)) (sym (ap page_in (e.frames j)) ∙ h);
        vacant = record {
          leaving = f.vacant.leaving ∙ sym (λ k. leaving_of p (m k) (list k) t);
          place = vacated_same pool.frames.used pool'.frames.used F F' _ _ v.place.index v.leaving e.used (ap p.bound m) e.frames f.vacant.place;
        };
        time = f.time ∙ ap (λ (x : ℕ). x + 1) (sym (ap (λ (x : Book). x.clock) e.next));
      }

  same-course : (pool pool' : Pool D P d p) (v : Vacancy) → DidEvict pool v pool' → course pool' ≡ course pool
  same-course pool pool' v e k = record { model = p.model (e.policy k); hits = e.hits k; fetches = e.fetches k }

  -- making room and admitting, one after the other
  pub fetched : (pool mid pool' : Pool D P d p) (kind : Kind) (page t : ℕ) (v : Vacancy) → DidEvict pool v mid → DidAdmit mid kind page t v pool' → DidTake pool kind page t pool'
  fetched pool mid pool' kind page t v e a =
      let b = e.next in
      let T : Book → Course p.Model → Type 0 = λ x y. Turn p (free x) y page t a.took.outcome (course pool') in
      let TB : Book → Type 0 = λ x. T x (course mid) in
      let out = sym a.fetched in
      record {
        next = a.took.next ∙ ap (λ (x : Book). with_grants x t kind page (granted x kind page + 1)) b;
        outcome = a.took.outcome;
        turn = subst (T (book pool)) (same-course pool mid v e) (subst TB b a.took.turn);
        left = λ q l. (ap (λ x. p.resident (p.model x) q) (sym e.policy) ∙ (a.took.left q l).0, (a.took.left q l).1);
        below = λ q. elim (e.below q) [
          | inl h ↦ inl (a.row q ∙ h)
          | inr h ↦ inr (let L : Outcome → Type 0 = λ o. Left o q in subst L out h.0, a.row q ∙ h.1)
        ];
      }
