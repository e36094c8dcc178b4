use Rattle.std.proofs.Common.{◌≡◌, ℕ, ◌+◌, ◌*◌, ◌≤◌, List, length, None, sym, ap, ◌∙◌, subst, arith}
use Rattle.book.specs.Book.{Book, is_granted, accepted}
use Rattle.book.specs.Call.Call.{Write}
use Rattle.book.specs.declared.grant.Kind.TheVariants.{Updating}
use Rattle.records.specs.Layout.{batch_bytes}
use Rattle.records.specs.KindLaws.{batch_laws, fee_laws}
use Rattle.records.specs.declared.record.Record.TheVariants.{Settled}
use Rattle.records.proofs.Trips.{inverse}
use Rattle.pool.specs.Meaning.{book}
use Rattle.ledger.specs.Held.{spot_of}
use Rattle.ledger.proofs.Granted.{after_write}
use Rattle.ledger.proofs.Opening.{pair-opens}
use Rattle.ledger.proofs.pair.settle_pair.Goals as goal

-- 32 bytes within the page
within : (n : ℕ) (bytes whole : List ℕ) → bytes ≡ whole → length whole ≡ 32 → n + 32 ≤ 512 → n + length bytes ≤ 512
within n bytes whole e l h = let z = ap length e in omega (arith, z)

pub returns-clause-did : goal.returns-clause-did
returns-clause-did g c first second =
    let pool = c.args.pool.now in
    let mid = c.write.new.self in
    let x = c.args.first.grant.now in
    let y = c.args.second.grant.now in
    let s = c.args.first.place * 32 in
    let t = c.args.second.place * 32 in
    let b = book pool in
    let pair = pair-opens c.args.number b.pages (spot_of c.args.first) (spot_of c.args.second) c.in_ok-pair.pair (c.in_ok-pair.ensures first second) in
    let bb = c.encode-batch.ensures.bytes in
    let fb = c.encode-fee.ensures.bytes in
    let e1 = after_write pool mid x.mark x.page s c.encode-batch.result _ c.write.ensures first (within _ _ _ bb ((inverse batch_laws).sized _).long pair.first) in
    let G : Book → Type 0 = λ k. is_granted k Updating y.mark y.page ≡ None in
    let e2 = after_write mid c.write-2.new.self y.mark y.page t c.encode-fee.result _ c.write-2.ensures (subst G (sym e1) second) (within _ _ _ fb ((inverse fee_laws).sized _).long pair.second) in (
      pair.opens,
      e2 ∙ ap (λ (k : Book). (accepted k (Write y.mark y.page t c.encode-fee.result)).1) e1
          ∙ ap (λ (v : List ℕ). (accepted (accepted b (Write x.mark x.page s v)).1 (Write y.mark y.page t c.encode-fee.result)).1) bb
          ∙ ap (λ (v : List ℕ). (accepted (accepted b (Write x.mark x.page s (batch_bytes (Settled c.in_ok-pair.pair.0)))).1 (Write y.mark y.page t v)).1) fb,
    )
