use Rattle.std.proofs.Common.{rules}
use Rattle.defects.proofs.Places.{SaidFirst, said_first}
use Rattle.defects.proofs.marks.mark_of.Goals as goal

pub returns : goal.returns
returns c =
    let first : SaidFirst c.args.marks.now c.args.page c.find_map.result = search rules in
    said_first c.args.marks.now c.args.page c.find_map.result first
