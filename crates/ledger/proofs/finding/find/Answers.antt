use Rattle.ledger.proofs.Searching.{not_begun, not_there, found_there, nowhere}
use Rattle.ledger.proofs.finding.find.Goals as goal

pub loop-page-init : goal.loop-page-init
loop-page-init g c = not_begun c.args.shelf c.args.number c.args.pool.now

pub loop-page-preserved : goal.loop-page-preserved
loop-page-preserved g c = not_there c.args.shelf c.args.number c.args.pool.now c.loop-page.pool c.find_on.new.pool c.loop-page.page c.loop-page-test.true c.loop-page.invariant c.in_default.ensures

pub returns-in-Some : goal.returns-in-Some
returns-in-Some g c = found_there c.args.shelf c.args.number c.args.pool.now c.loop-page.pool c.find_on.new.pool c.loop-page.page c.in-Some.place c.loop-page-test.true c.loop-page.invariant c.in-Some.ensures

pub returns : goal.returns
returns g c = nowhere c.args.shelf c.args.number c.args.pool.now c.loop-page.pool c.loop-page.page c.loop-page-test.false c.loop-page.invariant
