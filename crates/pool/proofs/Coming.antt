-- A page comes into a frame, in the place of another or into a free one.
use Rattle.std.proofs.Common.{◌≡◌, ℕ, suc, ◌+◌, ◌<◌, max, Bool, true, false, cond, eqb, ltb, ◌≢◌, ◌⊎◌, List, length, is_some, IfSome, Some, None, Option, sym, refl, ap, ◌∙◌, subst, inl, inr, add-one, arith}
use Rattle.std.proofs.lemmas.Bool.{cases_eq, cond-true, cond-false, eq-eqb, ne_eqb, lt-ltb}
use Rattle.device.specs.Row.{Page, sound, worn, lost, Row, filled_at}
use Rattle.device.specs.Shape.{Whole}
use Rattle.policy.specs.Sets.{entered, accepts, grown}
use Rattle.book.specs.Book.{by_kind, put, is_not_lost, is_not_worn}
use Rattle.book.specs.declared.grant.Kind.{Kind}
use Rattle.book.specs.declared.grant.Kind.TheVariants.{Reading, Updating}
use Rattle.frames.specs.Calls.{Absent}
use Rattle.frames.specs.Table.{Frame, page_in, at, pins, fresh, with}
use Rattle.frames.specs.declared.slot.Slot.{Slot}
use Rattle.pool.specs.Meaning.{shown, pins_at}
use Rattle.pool.specs.Tied.{Stands, Once, Tied}
use Rattle.pool.specs.Steps.{Vacated}
use Rattle.pool.proofs.Places.{at_out, at_here, at_come, at_gone, at_stay, once-with, at_more, once_more, some-none}
use Rattle.pool.proofs.Storing.{clean-over}

-- The frame of each page, once a page has come.
pub record Come (n : ℕ) (F : ℕ → Frame) (page : ℕ) (leaving : Option ℕ) (f : Frame) (n' : ℕ) (F' : ℕ → Frame) : Type 0 where
  pub once : Once n' F'
  pub here : at n' F' page ≡ Some f
  pub gone : (q : ℕ) → q ≢ page → leaving ≡ Some q → at n' F' q ≡ None
  pub stay : (q : ℕ) → q ≢ page → (leaving ≡ Some q → ⊥) → at n' F' q ≡ at n F q
  pub grows : n' ≡ grown n leaving

some_same : {x y : ℕ} → Some x ≡ Some y → x ≡ y
some_same e = cc

pub cases_leaving : (o : Option ℕ) (q : ℕ) → (o ≡ Some q) ⊎ (o ≡ Some q → ⊥)
cases_leaving None q = inr (λ e. some-none q (sym e))
cases_leaving (Some x) q = elim (cases_eq x q) [ inl e ↦ inl (ap Some e) | inr ne ↦ inr (λ e. ne (some_same e)) ]

module _ (n : ℕ) (F : ℕ → Frame) (i page : ℕ) (f : Frame) (n' : ℕ) (F' : ℕ → Frame) (once : Once n F) (absent : Absent n F page) (comes : page_in f ≡ page) (is : (j : ℕ) → F' j ≡ with F i f j) (used : n' ≡ max n (i + 1)) where
  all_is : F' ≡ with F i f
  all_is k j = is j k

  pub come : (bound : ℕ) (leaving : Option ℕ) → Vacated n F bound i leaving → Come n F page leaving f n' F'
  come bound None v =
      let e : i ≡ n = v.0 in
      let grows : n' ≡ suc n = omega (arith, used, e, add-one n) in
      let G : with F i f ≡ with F n f = ap (λ (j : ℕ). with F j f) e in
      let out : Absent n F (page_in f) = λ j l h. absent j l (h ∙ comes) in
      let all : (q : ℕ) → at n' F' q ≡ cond (eqb (page_in f) q) (Some f) (at n F q) = λ q. (λ k. at (grows k) ((all_is ∙ G) k) q) ∙ at_more n F f once out q in
      let O : ℕ → Type 0 = λ m. Once m F' in
      record {
        once = subst O (sym grows) (subst (Once (suc n)) (sym (all_is ∙ G)) (once_more n F f once out));
        here = all page ∙ cond-true (eqb (page_in f) page) (Some f) (at n F page) (eq-eqb (page_in f) page comes);
        gone = λ q ne l. absurd (some-none q (sym l));
        stay = λ q ne l. all q ∙ cond-false (eqb (page_in f) q) (Some f) (at n F q) (ne_eqb (page_in f) q (λ h. ne (sym h ∙ comes)));
        grows = grows ∙ sym (add-one n);
      }
  come bound (Some g) v =
      let low : i < n = v.0 in
      let same : n' ≡ n = omega (arith, used, low) in
      let alone : (j : ℕ) → j < n → page_in (F j) ≡ page_in f → j ≡ i = λ j l h. absurd (absent j l (h ∙ comes)) in
      let all : (q : ℕ) → at n' F' q ≡ at n (with F i f) q = λ q k. at (same k) (all_is k) q in
      let O : ℕ → Type 0 = λ m. Once m F' in
      record {
        once = subst O (sym same) (subst (Once n) (sym all_is) (once-with n F i f low once alone));
        here = all page ∙ at_come n F i f low once alone page comes;
        gone = λ q ne l. all q ∙ at_gone n F i f low once alone q (λ h. ne (sym h ∙ comes)) (v.1 ∙ some_same l);
        stay = λ q ne l. all q ∙ at_stay n F i f low once alone q (λ h. ne (sym h ∙ comes)) (λ h. l (ap Some (sym v.1 ∙ h)));
        grows = same;
      }

-- the page that leaves had a frame, with no grant out, and was not changed
pub record Leaver (n : ℕ) (F : ℕ → Frame) (q : ℕ) : Type 0 where
  pub frame : Frame
  pub at : at n F q ≡ Some frame
  pub idle : pins frame.slot ≡ 0
  pub clean : frame.slot.changed ≡ false

pub leaver : (n : ℕ) (F : ℕ → Frame) (bound i : ℕ) (o : Option ℕ) → Once n F → Vacated n F bound i o → IfSome o (λ q. (F i).slot.changed ≡ false) → (q : ℕ) → o ≡ Some q → Leaver n F q
leaver n F bound i None once v c q e = absurd (some-none q (sym e))
leaver n F bound i (Some g) once v c q e = record { frame = F i; at = at_here n F i q once v.0 (v.1 ∙ some_same e); idle = v.2; clean = c }

-- THE RESIDENT PAGES
enter_come : (res : ℕ → Bool) (page : ℕ) (o : Option ℕ) → entered res page o page ≡ true
enter_come res page None = cond-true (eqb page page) true (res page) (eq-eqb page page refl)
enter_come res page (Some g) = cond-true (eqb page page) true (cond (eqb page g) false (res page)) (eq-eqb page page refl)

enter_gone : (res : ℕ → Bool) (page : ℕ) (o : Option ℕ) (q : ℕ) → q ≢ page → o ≡ Some q → entered res page o q ≡ false
enter_gone res page None q ne e = absurd (some-none q (sym e))
enter_gone res page (Some g) q ne e = cond-false (eqb q page) true (cond (eqb q g) false (res q)) (ne_eqb q page ne) ∙ cond-true (eqb q g) false (res q) (eq-eqb q g (sym (some_same e)))

enter_stay : (res : ℕ → Bool) (page : ℕ) (o : Option ℕ) (q : ℕ) → q ≢ page → (o ≡ Some q → ⊥) → entered res page o q ≡ res q
enter_stay res page None q ne l = cond-false (eqb q page) true (res q) (ne_eqb q page ne)
enter_stay res page (Some g) q ne l = cond-false (eqb q page) true (cond (eqb q g) false (res q)) (ne_eqb q page ne) ∙ cond-false (eqb q g) false (res q) (ne_eqb q g (λ e. l (ap Some (sym e))))

pub enters : (res : ℕ → Bool) (n bound page : ℕ) (o : Option ℕ) → res page ≡ false → (o ≡ None → n < bound) → ((q : ℕ) → o ≡ Some q → res q ≡ true) → accepts res n bound page o ≡ true
enters res n bound page None out room in-it = cond-false (res page) false (ltb n bound) out ∙ lt-ltb n bound (room refl)
enters res n bound page (Some g) out room in-it = cond-false (res page) false (res g) out ∙ in-it g refl

-- WHAT IS READ OFF THE FRAMES
module _ (n : ℕ) (F : ℕ → Frame) (page : ℕ) (leaving : Option ℕ) (f : Frame) (n' : ℕ) (F' : ℕ → Frame) (c : Come n F page leaving f n' F') (absent : Absent n F page) (left : (q : ℕ) → leaving ≡ Some q → Leaver n F q) where
  out : at n F page ≡ None
  out = at_out n F page absent

  pub come-each : {X : Type 0} (v : Option Frame → ℕ → X) (w : ℕ → X) → v (Some f) page ≡ w page → ((q : ℕ) → q ≢ page → leaving ≡ Some q → v None q ≡ w q) → ((q : ℕ) → q ≢ page → (leaving ≡ Some q → ⊥) → v (at n F q) q ≡ w q) → (q : ℕ) → v (at n' F' q) q ≡ w q
  come-each v w here gone stay q =
      elim (cases_eq q page) [
        | inl e ↦ ap (λ (k : ℕ). v (at n' F' k) k) e ∙ ap (λ (o : Option Frame). v o page) c.here ∙ here ∙ sym (ap w e)
        | inr ne ↦ elim (cases_leaving leaving q) [
          | inl l ↦ ap (λ (o : Option Frame). v o q) (c.gone q ne l) ∙ gone q ne l
          | inr l ↦ ap (λ (o : Option Frame). v o q) (c.stay q ne l) ∙ stay q ne l
        ]
      ]

  pub come-tied : (row row' : Row) (res res' : ℕ → Bool) (size size' : ℕ) → Tied n F row res size → Stands (Some f) (row page) → ((q : ℕ) → row' q ≡ row q) → ((q : ℕ) → res' q ≡ entered res page leaving q) → size' ≡ grown size leaving → Tied n' F' row' res' size'
  come-tied row row' res res' size size' t here r e s = record {
    once = c.once;
    stands = λ q. (let R : Option Page → Type 0 = λ o. Stands (at n' F' q) o in subst R (sym (r q)) (stand q (cases_eq q page) (cases_leaving leaving q)));
    same = λ q. e q ∙ sym (come-each (λ o k. is_some o) (entered res page leaving)
        (sym (enter_come res page leaving))
        (λ k ne l. sym (enter_gone res page leaving k ne l))
        (λ k ne l. sym (t.same k) ∙ sym (enter_stay res page leaving k ne l)) q);
    filled = s ∙ ap (λ (m : ℕ). grown m leaving) t.filled ∙ sym c.grows;
  }
    where
      stand : (q : ℕ) → (q ≡ page) ⊎ (q ≢ page) → (leaving ≡ Some q) ⊎ (leaving ≡ Some q → ⊥) → Stands (at n' F' q) (row q)
      stand q (inl e) l =
          let S : Option Frame → Type 0 = λ o. Stands o (row page) in
          let K : ℕ → Type 0 = λ k. Stands (at n' F' k) (row k) in
          subst K (sym e) (subst S (sym c.here) here)
      stand q (inr ne) (inl l) = let S : Option Frame → Type 0 = λ o. Stands o (row q) in subst S (sym (c.gone q ne l)) tt
      stand q (inr ne) (inr l) = let S : Option Frame → Type 0 = λ o. Stands o (row q) in subst S (sym (c.stay q ne l)) (t.stands q)

  -- the same pages show
  pub come-pages : (row row' : Row) → shown (Some f) (row page) ≡ row page → ((q : ℕ) → leaving ≡ Some q → shown (at n F q) (row q) ≡ row q) → ((q : ℕ) → row' q ≡ row q) → (q : ℕ) → shown (at n' F' q) (row' q) ≡ shown (at n F q) (row q)
  come-pages row row' here gone r q =
      ap (shown (at n' F' q)) (r q)
      ∙ come-each (λ o k. shown o (row k)) (λ k. shown (at n F k) (row k))
      (here ∙ sym (ap (λ (o : Option Frame). shown o (row page)) out))
      (λ k ne l. sym (gone k l))
      (λ k ne l. refl) q

  no_pins : (kind : Kind) → pins_at kind (at n F page) ≡ 0
  no_pins kind = ap (pins_at kind) out

  left-readers : (q : ℕ) → leaving ≡ Some q → 0 ≡ pins_at Reading (at n F q)
  left-readers q l = let x = left q l in zero-first x.frame.slot.readers x.frame.slot.updaters x.idle ∙ sym (ap (pins_at Reading) x.at)
    where
      zero-first : (a b : ℕ) → a + b ≡ 0 → 0 ≡ a
      zero-first a b h = omega arith

  left-updaters : (q : ℕ) → leaving ≡ Some q → 0 ≡ pins_at Updating (at n F q)
  left-updaters q l = let x = left q l in zero-last x.frame.slot.readers x.frame.slot.updaters x.idle ∙ sym (ap (pins_at Updating) x.at)
    where
      zero-last : (a b : ℕ) → a + b ≡ 0 → 0 ≡ b
      zero-last a b h = omega arith

  -- the grants of one kind, with one more for the page that came
  pub come-reading : (kind : Kind) → f.slot ≡ fresh kind page → (q : ℕ) → pins_at Reading (at n' F' q) ≡ by_kind kind (put (λ k. pins_at Reading (at n F k)) page (by_kind {X = ℕ → ℕ} kind (λ k. pins_at Reading (at n F k)) (λ k. pins_at Updating (at n F k)) page + 1)) (λ k. pins_at Reading (at n F k)) q
  come-reading Reading e = come-each (λ o q. pins_at Reading o) (put (λ k. pins_at Reading (at n F k)) page (pins_at Reading (at n F page) + 1))
      (ap (λ (s : Slot). s.readers) e ∙ ap (λ (m : ℕ). m + 1) (sym (no_pins Reading)) ∙ sym (cond-true (eqb page page) (pins_at Reading (at n F page) + 1) (pins_at Reading (at n F page)) (eq-eqb page page refl)))
      (λ q ne l. left-readers q l ∙ sym (cond-false (eqb q page) (pins_at Reading (at n F page) + 1) (pins_at Reading (at n F q)) (ne_eqb q page ne)))
      (λ q ne l. sym (cond-false (eqb q page) (pins_at Reading (at n F page) + 1) (pins_at Reading (at n F q)) (ne_eqb q page ne)))
  come-reading Updating e = come-each (λ o q. pins_at Reading o) (λ k. pins_at Reading (at n F k))
      (ap (λ (s : Slot). s.readers) e ∙ sym (no_pins Reading)) (λ q ne l. left-readers q l) (λ q ne l. refl)

  pub come-updating : (kind : Kind) → f.slot ≡ fresh kind page → (q : ℕ) → pins_at Updating (at n' F' q) ≡ by_kind kind (λ k. pins_at Updating (at n F k)) (put (λ k. pins_at Updating (at n F k)) page (by_kind {X = ℕ → ℕ} kind (λ k. pins_at Reading (at n F k)) (λ k. pins_at Updating (at n F k)) page + 1)) q
  come-updating Updating e = come-each (λ o q. pins_at Updating o) (put (λ k. pins_at Updating (at n F k)) page (pins_at Updating (at n F page) + 1))
      (ap (λ (s : Slot). s.updaters) e ∙ ap (λ (m : ℕ). m + 1) (sym (no_pins Updating)) ∙ sym (cond-true (eqb page page) (pins_at Updating (at n F page) + 1) (pins_at Updating (at n F page)) (eq-eqb page page refl)))
      (λ q ne l. left-updaters q l ∙ sym (cond-false (eqb q page) (pins_at Updating (at n F page) + 1) (pins_at Updating (at n F q)) (ne_eqb q page ne)))
      (λ q ne l. sym (cond-false (eqb q page) (pins_at Updating (at n F page) + 1) (pins_at Updating (at n F q)) (ne_eqb q page ne)))
  come-updating Reading e = come-each (λ o q. pins_at Updating o) (λ k. pins_at Updating (at n F k))
      (ap (λ (s : Slot). s.updaters) e ∙ sym (no_pins Updating)) (λ q ne l. left-updaters q l) (λ q ne l. refl)

-- A page that was just read stands in its frame, and shows as it is.
pub read-stands : (kind : Kind) (page : ℕ) (f : Frame) (o : Option Page) (old : List ℕ) → f.slot ≡ fresh kind page → f.bytes ≡ filled_at o old → is_some o ≡ true → is_not_lost o ≡ None → by_kind kind None (is_not_worn o) ≡ None → Whole o → Stands (Some f) o
read-stands kind page f None old e b some not_lost not_worn w = let z : ◌≡◌ {A = ℕ} 0 1 = cc in absurd (omega arith)
read-stands kind page f (Some (sound bs)) old e b some not_lost not_worn w = (ap length b ∙ w, λ h. sym b)
read-stands Reading page f (Some (worn x bs)) old e b some not_lost not_worn w = (ap length b ∙ w, (ap (λ (s : Slot). s.changed) e, ap (λ (s : Slot). s.updaters) e, sym b))
read-stands Updating page f (Some (worn x bs)) old e b some not_lost not_worn w = let z : ◌≡◌ {A = ℕ} 0 1 = cc in absurd (omega arith)
read-stands kind page f (Some (lost x)) old e b some not_lost not_worn w = let z : ◌≡◌ {A = ℕ} 0 1 = cc in absurd (omega arith)

pub read-shows : (f : Frame) (o : Option Page) (old : List ℕ) → f.bytes ≡ filled_at o old → shown (Some f) o ≡ o
read-shows f None old b = refl
read-shows f (Some (sound bs)) old b = ap (λ (x : List ℕ). Some (sound x)) b
read-shows f (Some (worn x bs)) old b = refl
read-shows f (Some (lost x)) old b = refl

-- a free frame lies below the bound
pub room_for : (n : ℕ) (F : ℕ → Frame) (bound i : ℕ) (o : Option ℕ) → Vacated n F bound i o → o ≡ None → n < bound
room_for n F bound i None v e = v.1
room_for n F bound i (Some q) v e = absurd (some-none q e)

-- the page that leaves is the device's
pub left-shows : (n : ℕ) (F : ℕ → Frame) (row : Row) (res : ℕ → Bool) (size : ℕ) → Tied n F row res size → (q : ℕ) → Leaver n F q → shown (at n F q) (row q) ≡ row q
left-shows n F row res size t q l =
    let S : Option Frame → Type 0 = λ o. Stands o (row q) in
    ap (λ (o : Option Frame). shown o (row q)) l.at ∙ clean-over l.frame (row q) (subst S l.at (t.stands q)) l.clean
