use Rattle.std.specs.Str.Lines.{lines}
use Rattle.std.proofs.lemmas.Iterator.Splits.{YieldsList-from_lines}
use Rattle.desk.proofs.defect_file.DefectFile.read.Goals as goal

pub returns : goal.returns
returns c = c.of_lines.ensures (lines c.args.text.now) (YieldsList-from_lines {s = c.lines.result} c.args.text.now c.lines.ensures.rest).runs
