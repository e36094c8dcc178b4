-- What settling by a number is answered, from what its searches and its settlement were.
use Rattle.std.proofs.Common.{◌≡◌, ℕ, IfOk, Some, None, Ok, Err, Result, sym, ap, ◌∙◌}
use Rattle.book.specs.Book.{Book}
use Rattle.records.specs.declared.batch.Batch.{Batch}
use Rattle.records.specs.declared.fee.Fee.{Fee}
use Rattle.ledger.specs.declared.fault.Fault.{Fault}
use Rattle.ledger.specs.declared.fault.Fault.TheVariants as fault
use Rattle.ledger.specs.declared.numbered.Shelves.{Shelves}
use Rattle.ledger.specs.declared.spot.Spot.{Spot}
use Rattle.ledger.specs.Answered.{settlement}
use Rattle.ledger.specs.Numbered.{Found, batch_search, fee_search, with_batch, with_fee}

pub if-found : {F : Type 0} (r : Result (Batch × Fee) Fault) → F → IfOk r (λ x. F)
if-found (Ok x) f = f
if-found (Err e) f = tt

module _ (s : Shelves) (number : ℕ) (b : Book) where
  pub no-batch : None ≡ (batch_search s number b).0 → Err fault.NoBatch ≡ with_batch s number (batch_search s number b)
  no-batch h = λ i. with_batch s number (h i, (batch_search s number b).1)

  module _ (x : Spot) (one : Book) (h : Some x ≡ (batch_search s number b).0) (n : one ≡ (batch_search s number b).1) where
    from-batch : with_fee number x (fee_search s number one) ≡ with_batch s number (batch_search s number b)
    from-batch = λ i. with_batch s number (h i, n i)

    pub no-fee : None ≡ (fee_search s number one).0 → Err fault.NoFee ≡ with_batch s number (batch_search s number b)
    no-fee k = (λ i. with_fee number x (k i, (fee_search s number one).1)) ∙ from-batch

    pub both-found : (y : Spot) (two : Book) (r : Result (Batch × Fee) Fault) → Some y ≡ (fee_search s number one).0 → two ≡ (fee_search s number one).1 → r ≡ settlement number two x y → r ≡ with_batch s number (batch_search s number b)
    both-found y two r k m e = e ∙ (λ i. with_fee number x (k i, m i)) ∙ from-batch

    pub spots : (y : Spot) → Some y ≡ (fee_search s number one).0 → Found s number b x y
    spots y k = record { batch = sym h; fee = ap (λ (o : Book). (fee_search s number o).0) (sym n) ∙ sym k }
