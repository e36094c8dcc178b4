-- What a settlement is answered, from what its two fixes were answered.
use Rattle.std.proofs.Common.{◌≡◌, ℕ, Some, None, Err, Option, Result, sym, ap, ◌∙◌}
use Rattle.page.specs.declared.refusal.Refusal.{Refusal}
use Rattle.device.specs.Row.{Row}
use Rattle.book.specs.Book.{Book, next, refusal}
use Rattle.book.specs.Call.Call.{Fix}
use Rattle.book.specs.declared.grant.Kind.TheVariants.{Updating}
use Rattle.records.specs.declared.batch.Batch.{Batch}
use Rattle.records.specs.declared.fee.Fee.{Fee}
use Rattle.ledger.specs.declared.fault.Fault.{Fault}
use Rattle.ledger.specs.declared.fault.Fault.TheVariants as fault
use Rattle.ledger.specs.declared.spot.Spot.{Spot}
use Rattle.ledger.specs.Answered.{open_pair, settlement, or_refused}

module _ (number : ℕ) (b : Book) (x y : Spot) where
  pub no-first : (r : Refusal) → refusal b (Fix Updating x.page) ≡ Some r → Err (fault.Refused x.page r) ≡ settlement number b x y
  no-first r e = sym (ap (λ (o : Option Refusal). or_refused x.page o (or_refused y.page (refusal (next b (Fix Updating x.page)) (Fix Updating y.page)) (open_pair number b.pages x y))) e)

  module _ (one : Book) (after : one ≡ next b (Fix Updating x.page)) (first : refusal b (Fix Updating x.page) ≡ None) where
    -- the answer, by what the second fix was answered
    second : (u : Option Refusal) → refusal one (Fix Updating y.page) ≡ u → or_refused y.page u (open_pair number b.pages x y) ≡ settlement number b x y
    second u e = λ i. or_refused x.page (sym first i) (or_refused y.page (((sym e) ∙ ap (λ (k : Book). refusal k (Fix Updating y.page)) after) i) (open_pair number b.pages x y))

    pub no-second : (r : Refusal) → refusal one (Fix Updating y.page) ≡ Some r → Err (fault.Refused y.page r) ≡ settlement number b x y
    no-second r e = second (Some r) e

    pub looked : (pages : Row) (r : Result (Batch × Fee) Fault) → refusal one (Fix Updating y.page) ≡ None → pages ≡ b.pages → r ≡ open_pair number pages x y → r ≡ settlement number b x y
    looked pages r e same is = is ∙ ap (λ (k : Row). open_pair number k x y) same ∙ second None e
