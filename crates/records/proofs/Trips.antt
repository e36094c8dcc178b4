-- Records there and back, for every kind of fields.
use Rattle.std.proofs.Common.{◌≡◌, ℕ, suc, ◌+◌, ◌-◌, ◌<◌, Bool, true, false, cond, not, eqb, ltb, List, ◌∷◌, ◌++◌, length, get_or, drop, replicate, Ok, Err, Result, sym, refl, ap, ◌∙◌, subst, arith, lit<, length-append, eqb-true}
use lib.ListN.{length-replicate}
use Rattle.std.proofs.ByRecursion.{All-append, All-from_get_or}
use Rattle.std.proofs.lemmas.List.{get_or_at, drop_at, drop-drop}
use Rattle.records.specs.declared.malformed.Malformed.{Malformed}
use Rattle.records.specs.declared.malformed.Malformed.TheVariants as malformed
use Rattle.records.specs.declared.record.Record.{Record}
use Rattle.records.specs.declared.record.Record.TheVariants.{Empty, Entered, Settled}
use Rattle.records.specs.declared.status.Status.TheVariants as status
use Rattle.records.specs.Little.{blank}
use Rattle.records.specs.Form.{Bytes, FieldLaws}
use Rattle.records.specs.Layout.{judged, status_of, by_status, with_status, record_bytes, record_of}
use Rattle.records.specs.Laws.{Inverse, RecordFits}
use Rattle.records.proofs.Zeros.{zeros, blank-replicate, blank-drop, zero_at, status_zeros, under-zeros}

-- Bytes, as the code is told of them.
pub bytes_from : (n : ℕ) (bs : List ℕ) → length bs ≡ n → ((i : ℕ) → get_or bs i 0 < 256) → Bytes n bs
bytes_from n bs l h = record { long = l; under = All-from_get_or (λ b. b < 256) bs 0 (λ i k. h i) }

-- What holds of the record of each status holds of the record that bytes are read as.
module _ {T : Type 0} (P : Record T → Type 0) (x : T) (s : ℕ) (padded bare : Bool) (by-empty : bare ≡ true → P Empty) (by-entered : s ≡ 1 → padded ≡ true → P (Entered x)) (by-settled : s ≡ 2 → padded ≡ true → P (Settled x)) (r : Record T) where
  same : (y : Record T) → ◌≡◌ {A = Result (Record T) Malformed} (Ok y) (Ok r) → P y → P r
  same y e h = subst P (let k : y ≡ r = cc in k) h

  refused : (why : Malformed) → ◌≡◌ {A = Result (Record T) Malformed} (Err why) (Ok r) → P r
  refused why e = absurd (let z : ◌≡◌ {A = ℕ} 0 1 = cc in omega arith)

  told : (over p one two z : Bool) → padded ≡ p → eqb s 1 ≡ one → eqb s 2 ≡ two → bare ≡ z → by_status x (cond over (Err (malformed.Status s)) (cond (not p) (Err malformed.Padding) (cond one (Ok status.Entered) (cond two (Ok status.Settled) (cond z (Ok status.Empty) (Err malformed.Residue)))))) ≡ Ok r → P r
  told true p one two z h f g k e = refused _ e
  told false false one two z h f g k e = refused _ e
  told false true true two z h f g k e = same (Entered x) e (by-entered (eqb-true _ _ f) h)
  told false true false true z h f g k e = same (Settled x) e (by-settled (eqb-true _ _ g) h)
  told false true false false true h f g k e = same Empty e (by-empty k)
  told false true false false false h f g k e = refused _ e

  pub read_by : by_status x (judged s padded bare) ≡ Ok r → P r
  read_by e = told (ltb 2 s) padded (eqb s 1) (eqb s 2) bare refl refl refl refl e

-- An empty record is 32 zeros.
empty-zeros : (bs : List ℕ) → Bytes 32 bs → blank bs ≡ true → replicate 32 0 ≡ bs
empty-zeros bs h z = ap (λ n. replicate n 0) (sym h.long) ∙ sym (zeros bs z)

status_bytes : (s k : ℕ) → s < 256 → Bytes (suc k) (s ∷ replicate k 0)
status_bytes s k h = record { long = ap suc (length-replicate k 0); under = (h, under-zeros k) }

both : (n k m : ℕ) (xs ys : List ℕ) → n + k ≡ m → Bytes n xs → Bytes k ys → Bytes m (xs ++ ys)
both n k m xs ys e f g = record {
  long = length-append xs ys ∙ (λ i. f.long i + g.long i) ∙ e;
  under = All-append (λ b. b < 256) xs ys f.under g.under;
}

module _ {T : Type 0} {at : ℕ} {Fits : T → Type 0} {bytes : T → List ℕ} {fields : List ℕ → T} (laws : FieldLaws at Fits bytes fields) where
  -- The status byte of a record and the bytes after it.
  status-at : (s : ℕ) (x : T) → status_of at (with_status at bytes s x) ≡ judged s true (blank (with_status at bytes s x))
  status-at s x =
      let l = (laws.sized x).long in
      let zs = replicate (31 - at) 0 in
      let e : get_or (bytes x ++ (s ∷ zs)) at 0 ≡ s = get_or_at (bytes x) s zs 0 at l in
      let d : drop (at + 1) (bytes x ++ (s ∷ zs)) ≡ zs = sym (drop-drop 1 at (bytes x ++ (s ∷ zs))) ∙ ap (drop 1) (drop_at (bytes x) (s ∷ zs) at l) in
      λ i. judged (e i) ((ap blank d ∙ blank-replicate (31 - at)) i) (blank (with_status at bytes s x))

  pub record-back : (r : Record T) → RecordFits Fits r → record_of at fields (record_bytes at bytes r) ≡ Ok r
  unfolding record_bytes record_of
  record-back Empty h = λ i. by_status (fields (replicate 32 0)) (judged (zero_at 32 at i) (blank-drop (at + 1) 32 i) true)
  record-back (Entered x) h = (λ i. by_status (laws.back x (1 ∷ replicate (31 - at) 0) h i) (status-at 1 x i))
  record-back (Settled x) h = (λ i. by_status (laws.back x (2 ∷ replicate (31 - at) 0) h i) (status-at 2 x i))

  with : (bs : List ℕ) → Bytes 32 bs → (s : ℕ) → get_or bs at 0 ≡ s → blank (drop (at + 1) bs) ≡ true → with_status at bytes s (fields bs) ≡ bs
  with bs h s e z =
      let room = laws.room in
      let l = h.long in
      ap (λ ys. bytes (fields bs) ++ ys) (status_zeros bs at (31 - at) s (omega arith) e z) ∙ laws.only bs h

  pub record-only : (bs : List ℕ) → Bytes 32 bs → (r : Record T) → record_of at fields bs ≡ Ok r → record_bytes at bytes r ≡ bs
  unfolding record_bytes record_of
  record-only bs h = read_by (λ r. record_bytes at bytes r ≡ bs) (fields bs) (get_or bs at 0) (blank (drop (at + 1) bs)) (blank bs) (empty-zeros bs h) (with bs h 1) (with bs h 2)

  record_fits : (bs : List ℕ) → Bytes 32 bs → (r : Record T) → record_of at fields bs ≡ Ok r → RecordFits Fits r
  unfolding record_of
  record_fits bs h = read_by (RecordFits Fits) (fields bs) (get_or bs at 0) (blank (drop (at + 1) bs)) (blank bs) (λ z. tt) (λ e z. laws.fits bs h) (λ e z. laws.fits bs h)

  long : (s : ℕ) (x : T) → s < 256 → Bytes 32 (with_status at bytes s x)
  long s x h = let room = laws.room in both at (suc (31 - at)) 32 _ _ (omega arith) (laws.sized x) (status_bytes s (31 - at) h)

  sized : (r : Record T) → Bytes 32 (record_bytes at bytes r)
  unfolding record_bytes
  sized Empty = status_bytes 0 31 (lit< tt)
  sized (Entered x) = long 1 x (lit< tt)
  sized (Settled x) = long 2 x (lit< tt)

  pub inverse : Inverse 32 (RecordFits Fits) (record_bytes at bytes) (record_of at fields)
  inverse = record { sized = sized; back = record-back; only = record-only; fits = record_fits }
