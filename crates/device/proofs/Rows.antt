-- Laws of rows: what a write leaves of each answer.
use Rattle.std.proofs.Common.{◌≡◌, ℕ, Bool, true, false, cond, eqb, List, is_ok, Some, None, Option, sym, refl, ap, ◌∙◌, eq-eqb, ne_eqb, eqb-true}
use Rattle.std.proofs.lemmas.Bool.{false≢true}
use Rattle.device.specs.Row.{Page, sound, worn, lost, Row, state_at, read_at, write_at, filled_at, over_at, written}

-- a write alters no state, and so no answer but the bytes of a read
pub state-over : (o : Option Page) (new : List ℕ) → state_at (over_at o new) ≡ state_at o
state-over None new = refl
state-over (Some (sound bs)) new = refl
state-over (Some (worn w bs)) new = refl
state-over (Some (lost w)) new = refl

pub read-over : (o : Option Page) (new : List ℕ) → read_at (over_at o new) ≡ read_at o
read-over None new = refl
read-over (Some (sound bs)) new = refl
read-over (Some (worn w bs)) new = refl
read-over (Some (lost w)) new = refl

pub write-over : (o : Option Page) (new : List ℕ) → write_at (over_at o new) ≡ write_at o
write-over None new = refl
write-over (Some (sound bs)) new = refl
write-over (Some (worn w bs)) new = refl
write-over (Some (lost w)) new = refl

-- an accepted write is what a read then gives
pub filled-over : (o : Option Page) (new old : List ℕ) → is_ok (write_at o) ≡ true → filled_at (over_at o new) old ≡ new
filled-over None new old h = absurd (false≢true h)
filled-over (Some (sound bs)) new old h = refl
filled-over (Some (worn w bs)) new old h = absurd (false≢true h)
filled-over (Some (lost w)) new old h = absurd (false≢true h)

-- a refused write alters nothing
pub over-refused : (o : Option Page) (new : List ℕ) → is_ok (write_at o) ≡ false → over_at o new ≡ o
over-refused None new h = refl
over-refused (Some (sound bs)) new h = absurd (false≢true (sym h))
over-refused (Some (worn w bs)) new h = refl
over-refused (Some (lost w)) new h = refl

module _ (r : Row) (page : ℕ) (new : List ℕ) where
  pub written_same : written r page new page ≡ over_at (r page) new
  written_same = ap (λ (b : Bool). cond b (over_at (r page) new) (r page)) (eq-eqb page page refl)

  pub written-other : (k : ℕ) → (k ≡ page → ⊥) → written r page new k ≡ r k
  written-other k ne = ap (λ (b : Bool). cond b (over_at (r k) new) (r k)) (ne_eqb k page ne)

  -- at each place the page is as it was, or was written
  pub written_by : (P : Option Page → Type 0) (k : ℕ) → P (over_at (r k) new) → P (r k) → P (written r page new k)
  written_by P k over same = by_test (eqb k page)
    where
      by_test : (b : Bool) → P (cond b (over_at (r k) new) (r k))
      by_test true = over
      by_test false = same

  pub read-written : (k : ℕ) → read_at (written r page new k) ≡ read_at (r k)
  read-written k = written_by (λ o. read_at o ≡ read_at (r k)) k (read-over (r k) new) refl

  pub write-written : (k : ℕ) → write_at (written r page new k) ≡ write_at (r k)
  write-written k = written_by (λ o. write_at o ≡ write_at (r k)) k (write-over (r k) new) refl

  pub state-written : (k : ℕ) → state_at (written r page new k) ≡ state_at (r k)
  state-written k = written_by (λ o. state_at o ≡ state_at (r k)) k (state-over (r k) new) refl

  pub written-refused : is_ok (write_at (r page)) ≡ false → (k : ℕ) → written r page new k ≡ r k
  written-refused h k = by_test (eqb k page) refl
    where
      by_test : (b : Bool) → eqb k page ≡ b → cond b (over_at (r k) new) (r k) ≡ r k
      by_test true e = over-refused (r k) new (ap (λ j. is_ok (write_at (r j))) (eqb-true k page e) ∙ h)
      by_test false e = refl
