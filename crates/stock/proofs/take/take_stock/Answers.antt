use Rattle.std.proofs.Common.{is_ok, List, ap, ◌∙◌}
use Rattle.std.proofs.lemmas.Bool.{cond-true}
use Rattle.stock.specs.declared.line.Line.{Line}
use Rattle.stock.proofs.Looks.{line_same, lines_more}
use Rattle.stock.proofs.take.take_stock.Goals as goal

pub loop-page-preserved : goal.loop-page-preserved
loop-page-preserved g c =
    let seen = c.loop-page.invariant in
    let did = c.look.ensures in
    let rows = g.D.Device.row c.args.volume.now in
    let line = did.line ∙ line_same c.args.layout rows (g.D.Device.row c.loop-page.volume) c.loop-page.page (seen.row c.loop-page.page) in
    let pushed = c.push.ensures.items ∙ cond-true {A = List Line} (is_ok c.push.result) _ _ (ap is_ok c.in_ok-push.was) in
    record {
      so_far = pushed ∙ lines_more c.args.layout rows c.loop-page.page _ _ seen.so_far line;
      size = did.size ∙ seen.size;
      row = λ k. did.row k ∙ seen.row k;
    }
