-- The laws of the fields of a batch and of a fee.
use Rattle.std.proofs.Common.{◌≡◌, ℕ, ◌+◌, List, ◌++◌, ◌<◌, refl, ◌∙◌, arith, lit<, length-append}
use Rattle.std.proofs.ByRecursion.{All-append}
use Rattle.records.specs.declared.batch.Batch.{Batch}
use Rattle.records.specs.declared.fee.Fee.{Fee}
use Rattle.records.specs.Little.{bytes_of}
use Rattle.records.specs.Form.{Bytes, FieldLaws}
use Rattle.records.specs.Kinds.{batch_fields, batch_in, BatchFits, fee_fields, fee_in, FeeFits}
use Rattle.records.specs.Widths.{number-bytes, field-more, field_small, length-bytes, under-bytes}

number_in : (w n : ℕ) → Bytes w (bytes_of w n)
number_in w n = record { long = length-bytes w n; under = under-bytes w n }

-- How many bytes the parts of a record make.
bytes-more : (w n k : ℕ) (rest : List ℕ) → Bytes k rest → Bytes (w + k) (bytes_of w n ++ rest)
bytes-more w n k rest h = record {
  long = length-append (bytes_of w n) rest ∙ (λ i. length-bytes w n i + h.long i);
  under = All-append (λ b. b < 256) (bytes_of w n) rest (under-bytes w n) h.under;
}

batch_back : (b : Batch) (rest : List ℕ) → BatchFits b → batch_in (batch_fields b ++ rest) ≡ b
batch_back b rest f = λ i. record {
  number = number-bytes 4 b.number f.number_fits i;
  grocer = number-bytes 4 b.grocer f.grocer_fits i;
  coupons = number-bytes 4 b.coupons f.coupons_fits i;
  face_value = number-bytes 8 b.face_value f.face_value_fits i;
}

pub batch_laws : FieldLaws 20 BatchFits batch_fields batch_in
batch_laws = record {
  room = lit< tt;
  sized = λ b. bytes-more 4 b.number 16 _ (bytes-more 4 b.grocer 12 _ (bytes-more 4 b.coupons 8 _ (number_in 8 b.face_value)));
  back = batch_back;
  only = λ bs h. let u = h.under in let l = h.long in
      field-more bs u 0 4 _ (omega arith)
      (field-more bs u 4 4 _ (omega arith)
      (field-more bs u 8 4 _ (omega arith)
      (field-more bs u 12 8 _ (omega arith) refl)));
  fits = λ bs h. let l = h.long in record {
    number_fits = field_small bs h.under 0 4 (omega arith);
    grocer_fits = field_small bs h.under 4 4 (omega arith);
    coupons_fits = field_small bs h.under 8 4 (omega arith);
    face_value_fits = field_small bs h.under 12 8 (omega arith);
  };
}

fee_back : (f : Fee) (rest : List ℕ) → FeeFits f → fee_in (fee_fields f ++ rest) ≡ f
fee_back f rest h = λ i. record { batch = number-bytes 4 f.batch h.batch_fits i; amount = number-bytes 8 f.amount h.amount_fits i }

pub fee_laws : FieldLaws 12 FeeFits fee_fields fee_in
fee_laws = record {
  room = lit< tt;
  sized = λ f. bytes-more 4 f.batch 8 _ (number_in 8 f.amount);
  back = fee_back;
  only = λ bs h. let u = h.under in let l = h.long in
      field-more bs u 0 4 _ (omega arith) (field-more bs u 4 8 _ (omega arith) refl);
  fits = λ bs h. let l = h.long in record { batch_fits = field_small bs h.under 0 4 (omega arith); amount_fits = field_small bs h.under 4 8 (omega arith) };
}
