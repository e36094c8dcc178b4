use Rattle.std.proofs.Common.{◌≡◌, Err, Result, sym, ap, ◌∙◌, subst, rules}
use Rattle.book.specs.declared.grant.Kind.TheVariants.{Updating}
use Rattle.records.specs.declared.batch.Batch.{Batch}
use Rattle.records.specs.declared.fee.Fee.{Fee}
use Rattle.pool.specs.Meaning.{book}
use Rattle.ledger.specs.declared.fault.Fault.{Fault}
use Rattle.ledger.specs.declared.fault.Fault.TheVariants as fault
use Rattle.ledger.specs.Settled.{DidSettle}
use Rattle.ledger.proofs.Answering.{no-first, no-second, looked}
use Rattle.ledger.proofs.Granted.{fix-accepted, fix-refused}
use Rattle.ledger.proofs.Passing.{kept-ok, kept-err}
use Rattle.ledger.proofs.Settling.{first-refused, second-refused, between, first_out, second-out, settled, out-by, pair-by, looked-by, told}
use Rattle.ledger.proofs.settlement.settle.Goals as goal

pub returns-in_err-first : goal.returns-in_err-first
returns-in_err-first g c =
    let pool = c.args.pool.now in
    let b = book pool in
    let k = kept-err c.fix.result c.map_err.result _ c.map_err.ensures.cases c.in_err-first.field-0.0 c.in_err-first.was in
    let h1 = rw k.1 at c.fix.ensures.did in
    let e : c.in_err-first.field-0.0 ≡ fault.Refused c.args.batch.page k.0 = search rules in
    let r : c.from_residual.result ≡ Err c.in_err-first.field-0.0 = search rules in
    let D : Result (Batch × Fee) Fault → Type 0 = λ x. DidSettle c.args.number pool c.args.batch c.args.fee x c.fix.new.self in
    record {
      answer = r ∙ ap (λ (x : Fault). Err x) e ∙ no-first c.args.number b c.args.batch c.args.fee k.0 (fix-refused b Updating c.args.batch.page k.0 h1.doing.step.answer);
      did = subst D (sym r) (first-refused c.args.number pool c.fix.new.self c.args.batch c.args.fee k.0 c.in_err-first.field-0.0 h1);
    }

pub returns-in-Err-clause-did : goal.returns-in-Err-clause-did
returns-in-Err-clause-did g c =
    let k = kept-ok c.fix.result c.map_err.result _ c.map_err.ensures.cases c.in_ok-first.first c.in_ok-first.was in
    second-refused c.args.number c.args.pool.now c.fix.new.self c.fix-2.new.self c.unfix.new.self c.args.batch c.args.fee _ _ c.in-Err.refusal _ _ (told c.in_ok-first.first (rw k at c.fix.ensures.grant)) (rw k at c.fix.ensures.did) c.in-Err.ensures.did c.unfix.ensures

pub returns-clause-did : goal.returns-clause-did
returns-clause-did g c =
    let pool = c.args.pool.now in
    let one = c.fix.new.self in
    let two = c.fix-2.new.self in
    let x = c.args.batch in
    let y = c.args.fee in
    let k = kept-ok c.fix.result c.map_err.result _ c.map_err.ensures.cases c.in_ok-first.first c.in_ok-first.was in
    let eg = rw k at c.fix.ensures.grant in
    let ek = c.in-Ok.ensures.grant in
    let w = between c.args.number pool one two x y _ _ (rw k at c.fix.ensures.did) c.in-Ok.ensures.did in
    let pr = c.settle_pair-settled.ensures.did (out-by two c.in_ok-first.first eg (first_out c.args.number pool one two x y w)) (out-by two c.in-Ok.grant ek (second-out c.args.number pool one two x y w)) in
    settled c.args.number pool one two c.settle_pair-settled.new.pool c.unfix-2.new.self c.unfix-3.new.self x y _ _ _ _ c.settle_pair-settled.result (told c.in_ok-first.first eg) (told c.in-Ok.grant ek) w
    (pair-by c.args.number two c.settle_pair-settled.new.pool c.in_ok-first.first c.in-Ok.grant x.place y.place c.settle_pair-settled.result eg ek pr)
    c.unfix-2.ensures c.unfix-3.ensures

pub returns-in-Err-clause-answer : goal.returns-in-Err-clause-answer
returns-in-Err-clause-answer g c =
    let b = book c.args.pool.now in
    let one = book c.fix.new.self in
    let k = kept-ok c.fix.result c.map_err.result _ c.map_err.ensures.cases c.in_ok-first.first c.in_ok-first.was in
    let h1 = rw k at c.fix.ensures.did in
    no-second c.args.number b c.args.batch c.args.fee one h1.doing.step.after (fix-accepted b Updating c.args.batch.page _ h1.doing.step.answer) c.in-Err.refusal (fix-refused one Updating c.args.fee.page c.in-Err.refusal c.in-Err.ensures.did.doing.step.answer)

pub returns-clause-answer : goal.returns-clause-answer
returns-clause-answer g c =
    let pool = c.args.pool.now in
    let one = c.fix.new.self in
    let two = c.fix-2.new.self in
    let x = c.args.batch in
    let y = c.args.fee in
    let b = book pool in
    let k = kept-ok c.fix.result c.map_err.result _ c.map_err.ensures.cases c.in_ok-first.first c.in_ok-first.was in
    let h1 = rw k at c.fix.ensures.did in
    let h2 = c.in-Ok.ensures.did in
    let eg = rw k at c.fix.ensures.grant in
    let ek = c.in-Ok.ensures.grant in
    let w = between c.args.number pool one two x y _ _ h1 h2 in
    let is = c.settle_pair-settled.ensures.answer (out-by two c.in_ok-first.first eg (first_out c.args.number pool one two x y w)) (out-by two c.in-Ok.grant ek (second-out c.args.number pool one two x y w)) in
    looked c.args.number b x y (book one) h1.doing.step.after (fix-accepted b Updating x.page _ h1.doing.step.answer) (book two).pages c.settle_pair-settled.result (fix-accepted (book one) Updating y.page _ h2.doing.step.answer) (w.second.pages ∙ w.first.pages)
    (looked-by c.args.number (book two).pages c.in_ok-first.first c.in-Ok.grant x.place y.place c.settle_pair-settled.result eg ek is)
