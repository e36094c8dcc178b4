use Rattle.std.proofs.Common.{map}
use Rattle.std.proofs.lemmas.Iterator.{YieldsList-from_slice}
use Rattle.std.proofs.lemmas.Iterator.Consumers.{YieldsList-at, YieldsList-from_copied}
use Rattle.desk.proofs.Parsing.{YieldsList-read}
use Rattle.desk.proofs.defect_file.DefectFile.parse.Goals as goal

pub returns : goal.returns
returns c =
    let source = YieldsList-at c.copied.ensures.source (YieldsList-from_slice c.args.lines.now c.iter.ensures.rest) in
    c.of_lines.ensures (map (λ l. l.now) c.args.lines.now) (YieldsList-read (λ l. l.now) (YieldsList-from_copied source)).runs
