-- A frame that is written back.
use Rattle.std.proofs.Common.{◌≡◌, ℕ, false, eqb, ◌≢◌, List, Some, None, Option, sym, refl, ap, ◌∙◌, inl, inr}
use Rattle.std.proofs.lemmas.Bool.{cond-true, cond-false, eq-eqb, ne_eqb, cases_Bool}
use Rattle.device.specs.Row.{Page, sound, worn, lost, over_at}
use Rattle.device.specs.declared.device.Device as device
use Rattle.frames.specs.Calls.{DidStore}
use Rattle.frames.specs.Table.{Frame, page_in}
use Rattle.pool.specs.Tied.{Stands}
use Rattle.pool.specs.Steps.{cleaned}

-- a frame that is not changed has the device's page
pub clean-over : (f : Frame) (o : Option Page) → Stands (Some f) o → f.slot.changed ≡ false → over_at o f.bytes ≡ o
clean-over f None h e = refl
clean-over f (Some (sound bs)) h e = ap (λ (x : List ℕ). Some (sound x)) (sym (h.1 e))
clean-over f (Some (worn x bs)) h e = refl
clean-over f (Some (lost x)) h e = refl

pub over-over : (o : Option Page) (x y : List ℕ) → over_at (over_at o x) y ≡ over_at o y
over-over None x y = refl
over-over (Some (sound bs)) x y = refl
over-over (Some (worn z bs)) x y = refl
over-over (Some (lost z)) x y = refl

pub cleaned-stands : (f : Frame) (o : Option Page) → Stands (Some f) o → Stands (Some (cleaned f)) (over_at o f.bytes)
cleaned-stands f None h = absurd h
cleaned-stands f (Some (sound bs)) h = (h.0, λ e. refl)
cleaned-stands f (Some (worn x bs)) h = (h.0, (refl, h.1.1, h.1.2))
cleaned-stands f (Some (lost x)) h = absurd h.1

-- What writing a frame back leaves of the device.
pub record Stored {D : Type 0} (d : device.Ghosts D) (f : Frame) (below below' : D) : Type 0 where
  pub size : d.size below' ≡ d.size below
  pub here : d.row below' (page_in f) ≡ over_at (d.row below (page_in f)) f.bytes
  pub other : (q : ℕ) → page_in f ≢ q → d.row below' q ≡ d.row below q

pub stored : {D : Type 0} (d : device.Ghosts D) (f f' : Frame) (below below' : D) → DidStore d f below f' below' → Stands (Some f) (d.row below (page_in f)) → Stored d f below below'
stored d f f' below below' h s =
    elim (cases_Bool f.slot.changed) [
      | inl y ↦
          (let w = (h.dirty y).1 in
          let p = page_in f in
          record {
            size = w.size;
            here = w.row p ∙ cond-true (eqb p p) (over_at (d.row below p) f.bytes) (d.row below p) (eq-eqb p p refl);
            other = λ q ne. w.row q ∙ cond-false (eqb q p) (over_at (d.row below q) f.bytes) (d.row below q) (ne_eqb q p (λ e. ne (sym e)));
          })
      | inr z ↦
          (let e = h.clean z in
          record {
            size = ap d.size e;
            here = ap (λ b. d.row b (page_in f)) e ∙ sym (clean-over f (d.row below (page_in f)) s z);
            other = λ q ne. ap (λ b. d.row b q) e;
          })
    ]
