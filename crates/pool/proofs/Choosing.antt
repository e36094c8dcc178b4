-- What a choice among the pages with no grant out comes to.
use Rattle.std.proofs.Common.{◌≡◌, ℕ, ◌+◌, ◌<◌, Bool, true, false, cond, eqb, List, Some, None, Option, sym, refl, ap, ◌∙◌, inl, inr, arith}
use Rattle.std.proofs.lemmas.Bool.{both_ways, false≢true, cases_eq, eq-eqb, eqb-true}
use Rattle.device.specs.Row.{Row}
use Rattle.policy.specs.Sets.{member, Chosen}
use Rattle.frames.specs.Calls.{Found}
use Rattle.frames.specs.Table.{Frame, page_in, at, pins, idle}
use Rattle.frames.specs.declared.place.Place.{Place}
use Rattle.book.specs.declared.grant.Kind.TheVariants.{Reading, Updating}
use Rattle.pool.specs.Meaning.{pins_at}
use Rattle.pool.specs.Tied.{Tied}
use Rattle.pool.specs.Steps.{Vacated}
use Rattle.pool.proofs.Counting.{idle_at, idle-member}
use Rattle.pool.proofs.Places.{at_here}
use Rattle.pool.proofs.Standing.{resident_at}

module _ (n : ℕ) (F : ℕ → Frame) (row : Row) (res : ℕ → Bool) (size : ℕ) (t : Tied n F row res size) where
  listed_at : (i : ℕ) → i < n → member (page_in (F i)) (idle n F) ≡ eqb (pins (F i).slot) 0
  listed_at i l = idle-member n F (page_in (F i)) t.once ∙ ap idle_at (at_here n F i (page_in (F i)) t.once l refl)

  -- no choice: every frame has a grant out
  pub all-pinned : (ls : List ℕ) → ls ≡ idle n F → Chosen res ls None → (i : ℕ) → i < n → 0 < pins (F i).slot
  all-pinned ls e h i l =
      elim (cases_eq (pins (F i).slot) 0) [
        | inl z ↦ absurd (both_ways (res (page_in (F i))) (h (page_in (F i)) (ap (member (page_in (F i))) e ∙ listed_at i l ∙ eq-eqb (pins (F i).slot) 0 z)) (resident_at n F row res size t i (page_in (F i)) l refl))
        | inr ne ↦ above (pins (F i).slot) ne
      ]
    where
      above : (m : ℕ) → (m ≡ 0 → ⊥) → 0 < m
      above m ne = omega arith

  -- a page chosen is in a frame, and has no grant out
  pub chosen-idle : (ls : List ℕ) (q : ℕ) → ls ≡ idle n F → member q ls ≡ true → (f : Frame) × (at n F q ≡ Some f) × (pins f.slot ≡ 0)
  chosen-idle ls q e h = go (at n F q) (sym (idle-member n F q t.once) ∙ ap (member q) (sym e) ∙ h)
    where
      go : (o : Option Frame) → idle_at o ≡ true → (f : Frame) × (o ≡ Some f) × (pins f.slot ≡ 0)
      go None h = absurd (false≢true h)
      go (Some f) h = (f, refl, eqb-true (pins f.slot) 0 h)

  pub chosen-place : (ls : List ℕ) (q : ℕ) → ls ≡ idle n F → member q ls ≡ true → (i : Place) (bound : ℕ) → Found n F q (Some i) → Vacated n F bound i.index (Some q)
  chosen-place ls q e h i bound (l, p) =
      let w = chosen-idle ls q e h in
      let same : F i.index ≡ w.0 = some_same (sym (at_here n F i.index q t.once l p) ∙ w.1) in
      (l, p, ap (λ (f : Frame). pins f.slot) same ∙ w.2)
    where
      some_same : {x y : Frame} → Some x ≡ Some y → x ≡ y
      some_same e = cc

  -- the pages listed are exactly the resident ones with no grant out
  pub candidates : (q : ℕ) → member q (idle n F) ≡ cond (res q) (eqb (pins_at Reading (at n F q) + pins_at Updating (at n F q)) 0) false
  candidates q = idle-member n F q t.once ∙ ap (λ (b : Bool). cond b (eqb (pins_at Reading (at n F q) + pins_at Updating (at n F q)) 0) false) (sym (t.same q))
