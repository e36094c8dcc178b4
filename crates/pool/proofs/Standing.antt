-- Frames over the pages of a device.
use Rattle.std.proofs.Common.{◌≡◌, ℕ, ◌<◌, Bool, true, false, is_some, Some, None, Option, sym, refl, ap, ◌∙◌, subst, arith}
use Rattle.std.proofs.lemmas.Bool.{ltb-true}
use Rattle.device.specs.Row.{Page, sound, worn, lost, Row}
use Rattle.device.specs.Shape.{Shaped}
use Rattle.book.specs.Book.{by_kind, is_not_worn}
use Rattle.book.specs.declared.grant.Kind.{Kind}
use Rattle.book.specs.declared.grant.Kind.TheVariants.{Reading, Updating}
use Rattle.frames.specs.Table.{Frame, page_in, at, with_pins, with_slot}
use Rattle.pool.specs.Meaning.{shown}
use Rattle.pool.specs.Tied.{Stands, Tied}
use Rattle.pool.proofs.Places.{at_here}
use Rattle.pool.proofs.Storing.{clean-over}

module _ (n : ℕ) (F : ℕ → Frame) (row : Row) (res : ℕ → Bool) (size : ℕ) (t : Tied n F row res size) where
  -- a frame in use stands over its page
  pub stands_at : (i q : ℕ) → i < n → page_in (F i) ≡ q → Stands (Some (F i)) (row q)
  stands_at i q l e = let S : Option Frame → Type 0 = λ o. Stands o (row q) in subst S (at_here n F i q t.once l e) (t.stands q)

  pub resident_at : (i q : ℕ) → i < n → page_in (F i) ≡ q → res q ≡ true
  resident_at i q l e = t.same q ∙ ap is_some (at_here n F i q t.once l e)

  -- and its page is one of the device's
  pub page-low : (pages : ℕ) → Shaped pages row → (i : ℕ) → i < n → page_in (F i) < pages
  page-low pages s i l = ltb-true (page_in (F i)) pages (sym (s.exact (page_in (F i))) ∙ there (row (page_in (F i))) (stands_at i (page_in (F i)) l refl))
    where
      there : (o : Option Page) → Stands (Some (F i)) o → is_some o ≡ true
      there None h = absurd h
      there (Some pg) h = refl

  -- a page whose frame is not changed is the device's
  pub settled : (i q : ℕ) → i < n → page_in (F i) ≡ q → (F i).slot.changed ≡ false → shown (at n F q) (row q) ≡ row q
  settled i q l e h = ap (λ (o : Option Frame). shown o (row q)) (at_here n F i q t.once l e) ∙ clean-over (F i) (row q) (stands_at i q l e) h

  -- and so is one that is in no frame
  pub not-held : (q : ℕ) → at n F q ≡ None → shown (at n F q) (row q) ≡ row q
  not-held q e = ap (λ (o : Option Frame). shown o (row q)) e

-- another number of grants: for update only where the page is not worn
pub pinned-stands : (kind : Kind) (f : Frame) (o : Option Page) (m : ℕ) → by_kind kind None (is_not_worn o) ≡ None → Stands (Some f) o → Stands (Some (with_slot f (with_pins kind f.slot m))) o
pinned-stands kind f None m h s = absurd s
pinned-stands Reading f (Some (sound bs)) m h s = s
pinned-stands Updating f (Some (sound bs)) m h s = s
pinned-stands Reading f (Some (worn x bs)) m h s = s
pinned-stands Updating f (Some (worn x bs)) m h s = let z : ◌≡◌ {A = ℕ} 0 1 = cc in absurd (omega arith)
pinned-stands kind f (Some (lost x)) m h s = absurd s.1
