use Rattle.stock.proofs.Counts.{Counted}
use Rattle.stock.proofs.tally.count_records.Given as goal

abbrev pub invariant-loop-record : goal.invariant-loop-record
invariant-loop-record l = Counted l.fn.book l.fn.page l.record-index l.tally
