use Rattle.std.proofs.Common.{◌≡◌, ℕ, List, Ok, sym, refl, ap, ◌∙◌}
use Rattle.records.specs.declared.record.Record.{Record}
use Rattle.records.specs.declared.record.Record.TheVariants.{Empty, Entered, Settled}
use Rattle.records.specs.Form.{FieldLaws}
use Rattle.records.specs.Layout.{record_bytes, record_of}
use Rattle.records.specs.Laws.{RecordFits}
use Rattle.records.proofs.Trips.{record-back}
use Rattle.records.proofs.record.Record.encode.Goals as goal

-- The bytes of the record that an arm names, and what is read from them.
module _ {T : Type 0} {at : ℕ} {Fits : T → Type 0} {bytes : T → List ℕ} {fields : List ℕ → T} (laws : FieldLaws at Fits bytes fields) where
  written : (self r : Record T) (bs : List ℕ) → self ≡ r → RecordFits Fits r → bs ≡ record_bytes at bytes r → (bs ≡ record_bytes at bytes self) × (record_of at fields bs ≡ Ok self)
  written self r bs e f w = (w ∙ ap (record_bytes at bytes) (sym e), ap (record_of at fields) w ∙ record-back laws r f ∙ ap (λ x. Ok x) (sym e))

pub returns-in-Empty : goal.returns-in-Empty
unfolding record_bytes
returns-in-Empty g c =
    let h = written g.met.T.Fields.laws c.args.self.now Empty _ c.in-Empty.is tt refl in
    record { bytes = h.0; back = h.1 }

pub returns-in-Entered : goal.returns-in-Entered
unfolding record_bytes
returns-in-Entered g c =
    let h = written g.met.T.Fields.laws c.args.self.now (Entered c.in-Entered.fields) c.put.result c.in-Entered.is c.put.ensures.fits c.put.ensures.bytes in
    record { bytes = h.0; back = h.1 }

pub returns-in-Settled : goal.returns-in-Settled
unfolding record_bytes
returns-in-Settled g c =
    let h = written g.met.T.Fields.laws c.args.self.now (Settled c.in-Settled.fields) c.put-in-Settled.result c.in-Settled.is c.put-in-Settled.ensures.fits c.put-in-Settled.ensures.bytes in
    record { bytes = h.0; back = h.1 }
