-- What it takes that a batch and its fee may be settled.
use Rattle.std.proofs.Common.{◌≡◌, ℕ, ◌+◌, ◌*◌, ◌≤◌, Bool, true, false, cond, eqb, leb, List, Ok, Err, Result, refl, ap, ◌∙◌, subst, eqb-true, arith}
use Rattle.std.proofs.lemmas.Bool.{leb-true}
use Rattle.device.specs.Row.{Row}
use Rattle.records.specs.Layout.{batch_of, fee_of}
use Rattle.records.specs.declared.batch.Batch.{Batch}
use Rattle.records.specs.declared.record.Record.{Record}
use Rattle.records.specs.declared.record.Record.TheVariants.{Empty, Entered, Settled}
use Rattle.records.specs.declared.fee.Fee.{Fee}
use Rattle.records.specs.declared.malformed.Malformed.{Malformed}
use Rattle.ledger.specs.declared.fault.Fault.{Fault}
use Rattle.ledger.specs.declared.fault.Fault.TheVariants as fault
use Rattle.ledger.specs.declared.spot.Spot.{Spot}
use Rattle.ledger.specs.Answered.{fitting, open_batch, open_fee, open_record, open_pair, seen_at, then}
use Rattle.ledger.specs.Settled.{Open, bytes_in}

-- A batch and its fee that may be settled, at places that lie within their pages.
pub record Pair (number : ℕ) (pages : Row) (x y : Spot) (b : Batch) (f : Fee) : Type 0 where
  pub opens : Open number pages x y b f
  pub first : x.place * 32 + 32 ≤ 512
  pub second : y.place * 32 + 32 ≤ 512

-- an answer that is no fault comes of one that is none, and of what follows it
through : {A B : Type 0} (r : Result A Fault) (f : A → Result B Fault) (z : B) → Ok z ≡ then r f → (a : A) × (r ≡ Ok a) × (Ok z ≡ f a)
through (Ok a) f z e = (a, refl, e)
through (Err x) f z e = let n : ◌≡◌ {A = ℕ} 0 1 = cc in absurd (omega arith)

-- a test that was answered with no fault
passed : {A : Type 0} (t : Bool) (r : Result A Fault) (e : Fault) (a : A) → cond t r (Err e) ≡ Ok a → (t ≡ true) × (r ≡ Ok a)
passed true r e a h = (refl, h)
passed false r e a h = let n : ◌≡◌ {A = ℕ} 0 1 = cc in absurd (omega arith)

record-open : {T : Type 0} (empty settled : Fault) (page : ℕ) (r : Result (Record T) Malformed) (x : T) → open_record empty settled page r ≡ Ok x → r ≡ Ok (Entered x)
record-open empty settled page (Ok Empty) x e = let n : ◌≡◌ {A = ℕ} 0 1 = cc in absurd (omega arith)
record-open empty settled page (Ok (Entered y)) x e = cc
record-open empty settled page (Ok (Settled y)) x e = let n : ◌≡◌ {A = ℕ} 0 1 = cc in absurd (omega arith)
record-open empty settled page (Err m) x e = let n : ◌≡◌ {A = ℕ} 0 1 = cc in absurd (omega arith)

-- where a test is passed, the bytes are those at the place, within the page
seen : (pages : Row) (page place : ℕ) (xs : List ℕ) → seen_at pages page place ≡ Ok xs → (place * 32 + 32 ≤ 512) × (bytes_in pages page place ≡ xs)
seen pages page place xs e =
    let a = passed (leb (place * 32 + 32) 512) _ _ xs e in
    (leb-true (place * 32 + 32) 512 a.0, cc)

fits : (number : ℕ) (b : Batch) (f : Fee) (u : Unit {0}) → fitting number b f ≡ Ok u → (b.number ≡ number) × (f.batch ≡ b.number) × (f.amount ≤ b.face_value)
fits number b f u e =
    let a = passed (eqb b.number number) _ _ u e in
    let c = passed (eqb f.batch b.number) _ _ u a.1 in
    let d = passed (leb f.amount b.face_value) _ _ u c.1 in
    (eqb-true b.number number a.0, eqb-true f.batch b.number c.0, leb-true f.amount b.face_value d.0)

paired : (number : ℕ) (pages : Row) (x y : Spot) (xs ys : List ℕ) (b : Batch) (f : Fee) (u : Unit {0}) → seen_at pages x.page x.place ≡ Ok xs → seen_at pages y.page y.place ≡ Ok ys → open_batch x.page (batch_of xs) ≡ Ok b → open_fee y.page (fee_of ys) ≡ Ok f → fitting number b f ≡ Ok u → Pair number pages x y b f
paired number pages x y xs ys b f u e1 e2 e3 e4 e5 =
    let s = seen pages x.page x.place xs e1 in
    let t = seen pages y.page y.place ys e2 in
    let k = fits number b f u e5 in
    record {
      opens = record {
        batch = ap batch_of s.1 ∙ record-open fault.NoBatch fault.SettledBatch x.page (batch_of xs) b e3;
        fee = ap fee_of t.1 ∙ record-open fault.NoFee fault.SettledFee y.page (fee_of ys) f e4;
        named = k.0;
        same = k.1;
        within = k.2;
      };
      first = s.0;
      second = t.0;
    }

-- an equation of two answers, taken apart
same-pair : (b : Batch) (f : Fee) (z : Batch × Fee) → ◌≡◌ {A = Result (Batch × Fee) Fault} (Ok z) (Ok (b, f)) → (b, f) ≡ z
same-pair b f z e = cc

pub pair-opens : (number : ℕ) (pages : Row) (x y : Spot) (z : Batch × Fee) → Ok z ≡ open_pair number pages x y → Pair number pages x y z.0 z.1
pair-opens number pages x y z e =
    let s1 = through (seen_at pages x.page x.place) _ z e in
    let s2 = through (seen_at pages y.page y.place) _ z s1.2 in
    let s3 = through (open_batch x.page (batch_of s1.0)) _ z s2.2 in
    let s4 = through (open_fee y.page (fee_of s2.0)) _ z s3.2 in
    let s5 = through (fitting number s3.0 s4.0) _ z s4.2 in
    let P : Batch × Fee → Type 0 = λ k. Pair number pages x y k.0 k.1 in
    subst P (same-pair s3.0 s4.0 z s5.2) (paired number pages x y s1.0 s2.0 s3.0 s4.0 s5.0 s1.1 s2.1 s3.1 s4.1 s5.1)
