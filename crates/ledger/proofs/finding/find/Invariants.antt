use Rattle.ledger.proofs.Searching.{Searched}
use Rattle.ledger.proofs.finding.find.Given as goal

abbrev pub invariant-loop-page : goal.invariant-loop-page
invariant-loop-page g l = Searched l.fn.shelf l.fn.number l.initial.pool l.pool l.page
