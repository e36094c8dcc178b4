-- One frame in use becomes another of the same page.
use Rattle.std.proofs.Common.{◌≡◌, ℕ, ◌<◌, Bool, eqb, ◌≢◌, ◌⊎◌, is_some, Some, Option, sym, refl, ap, ◌∙◌, subst, inl, inr}
use Rattle.std.proofs.lemmas.Bool.{cases_eq, cond-true, cond-false, eq-eqb, ne_eqb}
use Rattle.device.specs.Row.{Page, Row, over_at}
use Rattle.book.specs.Book.{by_kind, put}
use Rattle.book.specs.declared.grant.Kind.{Kind}
use Rattle.book.specs.declared.grant.Kind.TheVariants.{Reading, Updating}
use Rattle.frames.specs.Table.{Frame, page_in, at, with, with_pins, with_slot}
use Rattle.pool.specs.Meaning.{shown, pins_at}
use Rattle.pool.specs.Tied.{Stands, Once, Tied}
use Rattle.pool.proofs.Places.{at_come, at_stay, at_here, once-with}

module _ (n : ℕ) (F : ℕ → Frame) (i : ℕ) (f : Frame) (n' : ℕ) (F' : ℕ → Frame) (used : n' ≡ n) (low : i < n) (once : Once n F) (same : page_in f ≡ page_in (F i)) (is : (j : ℕ) → F' j ≡ with F i f j) where
  all_is : F' ≡ with F i f
  all_is k j = is j k

  alone : (j : ℕ) → j < n → page_in (F j) ≡ page_in f → j ≡ i
  alone j l e = once j i l low (e ∙ same)

  pub put-once : Once n' F'
  put-once = let O : ℕ → Type 0 = λ m. Once m F' in subst O (sym used) (subst (Once n) (sym all_is) (once-with n F i f low once alone))

  all_at : (q : ℕ) → at n' F' q ≡ at n (with F i f) q
  all_at q k = at (used k) (all_is k) q

  pub put-here : (q : ℕ) → page_in (F i) ≡ q → at n' F' q ≡ Some f
  put-here q e = all_at q ∙ at_come n F i f low once alone q (same ∙ e)

  pub put_other : (q : ℕ) → page_in (F i) ≢ q → at n' F' q ≡ at n F q
  put_other q ne = all_at q ∙ at_stay n F i f low once alone q (λ e. ne (sym same ∙ e)) ne

  -- what is read off each page's frame
  pub put-each : {X : Type 0} (v : Option Frame → ℕ → X) (w : ℕ → X) → v (Some f) (page_in (F i)) ≡ w (page_in (F i)) → ((q : ℕ) → page_in (F i) ≢ q → v (at n F q) q ≡ w q) → (q : ℕ) → v (at n' F' q) q ≡ w q
  put-each v w here away q =
      elim (cases_eq (page_in (F i)) q) [
        | inl e ↦ ap (λ (o : Option Frame). v o q) (put-here q e) ∙ sym (ap (v (Some f)) e) ∙ here ∙ ap w e
        | inr ne ↦ ap (λ (o : Option Frame). v o q) (put_other q ne) ∙ away q ne
      ]

  put_some : (q : ℕ) → is_some (at n' F' q) ≡ is_some (at n F q)
  put_some = put-each (λ o q. is_some o) (λ q. is_some (at n F q)) (sym (ap is_some (at_here n F i (page_in (F i)) once low refl))) (λ q ne. refl)

  pub put-tied : (row row' : Row) (res res' : ℕ → Bool) (size size' : ℕ) → Tied n F row res size → Stands (Some f) (row' (page_in (F i))) → ((q : ℕ) → page_in (F i) ≢ q → row' q ≡ row q) → ((q : ℕ) → res' q ≡ res q) → size' ≡ size → Tied n' F' row' res' size'
  put-tied row row' res res' size size' t here away r s = record {
    once = put-once;
    stands = λ q. stand q (cases_eq (page_in (F i)) q);
    same = λ q. r q ∙ t.same q ∙ sym (put_some q);
    filled = s ∙ t.filled ∙ sym used;
  }
    where
      stand : (q : ℕ) → (page_in (F i) ≡ q) ⊎ (page_in (F i) ≢ q) → Stands (at n' F' q) (row' q)
      stand q (inl e) =
          let S : Option Frame → Type 0 = λ o. Stands o (row' q) in
          let R : ℕ → Type 0 = λ k. Stands (Some f) (row' k) in
          subst S (sym (put-here q e)) (subst R e here)
      stand q (inr ne) =
          let S : Option Frame → Type 0 = λ o. Stands o (row' q) in
          let R : Option Page → Type 0 = λ o. Stands (at n F q) o in
          subst S (sym (put_other q ne)) (subst R (sym (away q ne)) (t.stands q))

  -- another number of grants of a kind
  pub put-reading : (kind : Kind) (m : ℕ) → f ≡ with_slot (F i) (with_pins kind (F i).slot m) → (q : ℕ) → pins_at Reading (at n' F' q) ≡ by_kind kind (put (λ k. pins_at Reading (at n F k)) (page_in (F i)) m) (λ k. pins_at Reading (at n F k)) q
  put-reading Reading m e = put-each (λ o q. pins_at Reading o) (put (λ k. pins_at Reading (at n F k)) (page_in (F i)) m)
      (ap (λ (x : Frame). x.slot.readers) e ∙ sym (cond-true (eqb (page_in (F i)) (page_in (F i))) m (pins_at Reading (at n F (page_in (F i)))) (eq-eqb (page_in (F i)) (page_in (F i)) refl)))
      (λ q ne. sym (cond-false (eqb q (page_in (F i))) m (pins_at Reading (at n F q)) (ne_eqb q (page_in (F i)) (λ x. ne (sym x)))))
  put-reading Updating m e = put-each (λ o q. pins_at Reading o) (λ k. pins_at Reading (at n F k))
      (ap (λ (x : Frame). x.slot.readers) e ∙ sym (ap (pins_at Reading) (at_here n F i (page_in (F i)) once low refl)))
      (λ q ne. refl)

  pub put-updating : (kind : Kind) (m : ℕ) → f ≡ with_slot (F i) (with_pins kind (F i).slot m) → (q : ℕ) → pins_at Updating (at n' F' q) ≡ by_kind kind (λ k. pins_at Updating (at n F k)) (put (λ k. pins_at Updating (at n F k)) (page_in (F i)) m) q
  put-updating Updating m e = put-each (λ o q. pins_at Updating o) (put (λ k. pins_at Updating (at n F k)) (page_in (F i)) m)
      (ap (λ (x : Frame). x.slot.updaters) e ∙ sym (cond-true (eqb (page_in (F i)) (page_in (F i))) m (pins_at Updating (at n F (page_in (F i)))) (eq-eqb (page_in (F i)) (page_in (F i)) refl)))
      (λ q ne. sym (cond-false (eqb q (page_in (F i))) m (pins_at Updating (at n F q)) (ne_eqb q (page_in (F i)) (λ x. ne (sym x)))))
  put-updating Reading m e = put-each (λ o q. pins_at Updating o) (λ k. pins_at Updating (at n F k))
      (ap (λ (x : Frame). x.slot.updaters) e ∙ sym (ap (pins_at Updating) (at_here n F i (page_in (F i)) once low refl)))
      (λ q ne. refl)

  -- and the same bytes show the same pages
  pub put-pages : (row row' : Row) → f.bytes ≡ (F i).bytes → ((q : ℕ) → row' q ≡ row q) → (q : ℕ) → shown (at n' F' q) (row' q) ≡ shown (at n F q) (row q)
  put-pages row row' e r = put-each (λ o q. shown o (row' q)) (λ q. shown (at n F q) (row q))
      (ap (shown (Some f)) (r (page_in (F i))) ∙ ap (over_at (row (page_in (F i)))) e ∙ sym (ap (λ (o : Option Frame). shown o (row (page_in (F i)))) (at_here n F i (page_in (F i)) once low refl)))
      (λ q ne. ap (shown (at n F q)) (r q))
