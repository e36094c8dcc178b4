use Rattle.std.proofs.Common.{◌∙◌}
use Rattle.office.proofs.Taking.{same_lines}
use Rattle.office.proofs.take.stock_of.Goals as goal

pub returns : goal.returns
returns c =
    let opened = c.in_ok-volume.ensures in
    c.in_ok-lines.ensures.lines ∙ same_lines _ _ _ _ _ _ _ _ c.whole_pages.ensures c.whole_pages-2.ensures opened.size opened.row
