use Rattle.std.proofs.Common.{rules}
use Rattle.defects.proofs.Places.{spot_by}
use Rattle.defects.proofs.marks.spot.Goals as goal

pub returns : goal.returns
returns c = spot_by c.args.marks.now c.args.page _ c.marked_place.result c.or_else.result c.marked_place.ensures c.or_else.ensures (λ q. search rules)
