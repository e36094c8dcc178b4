-- Searches, one after another.
use Rattle.std.proofs.Common.{◌≡◌, ℕ, Err, Result, refl, ◌∙◌, subst}
use Rattle.device.specs.Row.{Row}
use Rattle.device.specs.declared.device.Device as device
use Rattle.policy.specs.declared.policy.Policy as policy
use Rattle.records.specs.declared.batch.Batch.{Batch}
use Rattle.records.specs.declared.fee.Fee.{Fee}
use Rattle.pool.specs.Meaning.{book}
use Rattle.pool.specs.declared.pool.Pool.{Pool}
use Rattle.ledger.specs.Finding.{Undisturbed}
use Rattle.ledger.specs.declared.fault.Fault.{Fault}
use Rattle.ledger.specs.declared.spot.Spot.{Spot}
use Rattle.ledger.specs.declared.numbered.Shelves.{Shelves}
use Rattle.ledger.specs.Numbered.{DidSettleNumber, Found, batch_search, with_batch}
use Rattle.ledger.specs.Settled.{Pages, DidSettle}
use Rattle.ledger.proofs.Numbering.{if-found}

module _ {D P : Type 0} {d : device.Ghosts D} {p : policy.Ghosts P} where
  pub at_rest : (pool : Pool D P d p) → Undisturbed pool pool
  at_rest pool = record { grants = record { reading = λ q. refl; updating = λ q. refl }; pages = λ q. refl }

  pub both : (pool mid pool' : Pool D P d p) → Undisturbed pool mid → Undisturbed mid pool' → Undisturbed pool pool'
  both pool mid pool' a b = record {
    grants = record { reading = λ q. b.grants.reading q ∙ a.grants.reading q; updating = λ q. b.grants.updating q ∙ a.grants.updating q };
    pages = λ q. b.pages q ∙ a.pages q;
  }

module _ {D P : Type 0} {d : device.Ghosts D} {p : policy.Ghosts P} (s : Shelves) (number : ℕ) where
  -- nothing was settled
  pub not_found : (pool pool' : Pool D P d p) (x y : Spot) (e : Fault) → Undisturbed pool pool' → Err e ≡ with_batch s number (batch_search s number (book pool)) → DidSettleNumber s number pool (Err e) pool'
  not_found pool pool' x y e a is = record { answer = is; batch = x; fee = y; found = tt; did = record { grants = a.grants; pages = a.pages } }

  -- a settlement after searches
  pub found-then : (pool mid pool' : Pool D P d p) (x y : Spot) (r : Result (Batch × Fee) Fault) → Undisturbed pool mid → DidSettle number mid x y r pool' → Found s number (book pool) x y → r ≡ with_batch s number (batch_search s number (book pool)) → DidSettleNumber s number pool r pool'
  found-then pool mid pool' x y r a h f is =
      let R : Row → Type 0 = λ v. Pages number v x y r (book pool').pages in
      record {
        answer = is;
        batch = x;
        fee = y;
        found = if-found r f;
        did = record {
          grants = record { reading = λ q. h.grants.reading q ∙ a.grants.reading q; updating = λ q. h.grants.updating q ∙ a.grants.updating q };
          pages = subst R (λ k q. a.pages q k) h.pages;
        };
      }
