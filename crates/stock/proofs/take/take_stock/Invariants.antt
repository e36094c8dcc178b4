use Rattle.std.proofs.Common.{vec_items}
use Rattle.stock.specs.Lines.{Seen}
use Rattle.stock.proofs.take.take_stock.Given as goal

abbrev pub invariant-loop-page : goal.invariant-loop-page
invariant-loop-page g l = Seen l.layout (g.D.Device.size l.initial.volume) (g.D.Device.row l.initial.volume) l.page (vec_items l.lines) (g.D.Device.size l.volume) (g.D.Device.row l.volume)
