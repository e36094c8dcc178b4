use Rattle.std.proofs.Common.{◌≡◌, ℕ, List, Ok, Err, IfOk, Result, sym, refl, ap, subst, ◌∙◌, rules}
use Rattle.records.specs.declared.malformed.Malformed.{Malformed}
use Rattle.records.specs.declared.record.Record.{Record}
use Rattle.records.specs.declared.record.Record.TheVariants.{Empty, Entered, Settled}
use Rattle.records.specs.declared.status.Status.{Status}
use Rattle.records.specs.declared.status.Status.TheVariants as status
use Rattle.records.specs.Form.{Bytes, FieldLaws}
use Rattle.records.specs.Layout.{status_of, by_status, record_bytes, record_of}
use Rattle.records.proofs.Trips.{bytes_from, record-only}
use Rattle.records.proofs.record.Record.decode.Goals as goal

-- The record of the status that was read.
module _ {T : Type 0} {at : ℕ} {Fits : T → Type 0} {bytes : T → List ℕ} {fields : List ℕ → T} (laws : FieldLaws at Fits bytes fields) where
  read : (n : ℕ) (bs : List ℕ) → n ≡ at → Bytes 32 bs → (x y : Status) → Ok x ≡ status_of n bs → x ≡ y → (r : Record T) → by_status (fields bs) (Ok y) ≡ Ok r → (Ok r ≡ record_of at fields bs) × (record_bytes at bytes r ≡ bs)
  unfolding record_of
  read n bs k h x y e f r g =
      let v = sym g ∙ ap (λ z. by_status (fields bs) (Ok z)) (sym f) ∙ ap (by_status (fields bs)) (e ∙ ap (λ m. status_of m bs) k) in
      (v, record-only laws bs h r (sym v))

  refused : (n : ℕ) (bs : List ℕ) → n ≡ at → (why : Malformed) → Err why ≡ status_of n bs → (r : Result (Record T) Malformed) → r ≡ Err why → (r ≡ record_of at fields bs) × IfOk r (λ x. record_bytes at bytes x ≡ bs)
  unfolding record_of
  refused n bs k why e r h =
      (h ∙ ap (by_status (fields bs)) (e ∙ ap (λ m. status_of m bs) k), subst (λ y. IfOk y (λ x. record_bytes at bytes x ≡ bs)) (sym h) tt)

pub returns-in_err-status_at : goal.returns-in_err-status_at
returns-in_err-status_at g c =
    let p = refused g.met.T.Fields.laws _ c.args.bytes.now c.STATUS.ensures c.in_err-status_at.field-0.0 c.in_err-status_at.ensures c.from_residual.result (search rules) in
    record { value = p.0; only = p.1 }

pub returns-in-Empty : goal.returns-in-Empty
returns-in-Empty g c =
    let h = bytes_from 32 c.args.bytes.now c.told-bytes c.fits-bytes in
    let p = read g.met.T.Fields.laws _ c.args.bytes.now c.STATUS.ensures h _ status.Empty c.in_ok-status_at.ensures c.in-Empty.is Empty refl in
    record { value = p.0; only = p.1 }

pub returns-in-Entered : goal.returns-in-Entered
returns-in-Entered g c =
    let h = bytes_from 32 c.args.bytes.now c.told-bytes c.fits-bytes in
    let p = read g.met.T.Fields.laws _ c.args.bytes.now c.STATUS.ensures h _ status.Entered c.in_ok-status_at.ensures c.in-Entered.is (Entered c.from_bytes.result) (ap (λ b. Ok (Entered b)) (sym c.from_bytes.ensures)) in
    record { value = p.0; only = p.1 }

pub returns-in-Settled : goal.returns-in-Settled
returns-in-Settled g c =
    let h = bytes_from 32 c.args.bytes.now c.told-bytes c.fits-bytes in
    let p = read g.met.T.Fields.laws _ c.args.bytes.now c.STATUS.ensures h _ status.Settled c.in_ok-status_at.ensures c.in-Settled.is (Settled c.from_bytes-in-Settled.result) (ap (λ b. Ok (Settled b)) (sym c.from_bytes-in-Settled.ensures)) in
    record { value = p.0; only = p.1 }
