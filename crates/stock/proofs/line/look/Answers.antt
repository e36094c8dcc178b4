use Rattle.std.proofs.Common.{ap, ◌∙◌}
use Rattle.stock.specs.Lines.{heard_of, found_at}
use Rattle.stock.proofs.Looks.{heard_found, same_line}
use Rattle.stock.proofs.line.look.Goals as goal

pub returns : goal.returns
returns g c =
    let page = c.args.page in
    let o = g.D.Device.row c.args.volume.now page in
    let b = c.book_of-book.ensures in
    let read = c.read-answer.ensures in
    record {
      line = same_line page _ _ _ _ _ _ b c.state-state.ensures
          (c.heard-found.ensures
          ∙ ap (λ x. heard_of c.book_of-book.result x c.read-answer.new.buffer) read.answer
          ∙ ap (heard_of c.book_of-book.result _) read.buffer
          ∙ heard_found c.book_of-book.result o _
          ∙ ap (λ x. found_at x o) b);
      size = read.size;
      row = read.row;
    }
