use Rattle.std.proofs.Common.{Result, sym, subst}
use Rattle.page.specs.declared.refusal.Refusal.{Refusal}
use Rattle.book.specs.declared.grant.Kind.TheVariants.{Reading}
use Rattle.pool.specs.Meaning.{book}
use Rattle.pool.proofs.Doings.{exit_err}
use Rattle.ledger.specs.Reading.{DidReadPage}
use Rattle.ledger.proofs.Granted.{fix-accepted}
use Rattle.ledger.proofs.Readings.{read-refused, read_whole, page-long, told}
use Rattle.ledger.proofs.reading.read_page.Goals as goal

pub returns-in_err-grant : goal.returns-in_err-grant
returns-in_err-grant g c =
    let pool = c.args.pool.now in
    let old = c.args.buffer.now in
    let C : Result (Unit {0}) Refusal → Type 0 = λ r. DidReadPage pool c.args.page old r c.fix.new.self old in
    subst C (sym (exit_err c.from_residual.result _ c.from_residual.ensures.1)) (read-refused pool c.fix.new.self c.args.page old _ c.in_err-grant.ensures.did)

pub returns : goal.returns
returns g c =
    let pool = c.args.pool.now in
    let one = c.fix.new.self in
    let page = c.args.page in
    let h1 = c.in_ok-grant.ensures.did in
    let yes-it = fix-accepted (book pool) Reading page _ h1.doing.step.answer in
    read_whole pool one c.unfix.new.self page _ _ c.args.buffer.now c.read-read.new.buffer c.read-read.result _ (told c.in_ok-grant.grant c.in_ok-grant.ensures.grant) c.told-buffer (page-long pool page yes-it) h1 c.read-read.ensures c.unfix.ensures
