use Rattle.std.proofs.Common.{◌≡◌, is_ok, sym, ap, ◌∙◌}
use Rattle.device.specs.Row.{Row, read_at, filled_at}
use Rattle.device.proofs.Rows.{written_same, written-other, written-refused, read-written, filled-over}
use Rattle.device.proofs.both.write_then_read.Goals as goal

pub returns : goal.returns
returns g c =
    let rows : Row = g.D.Device.row c.args.device.now in
    let page = c.args.page in
    let bytes = c.args.bytes.now in
    let other = c.args.other in
    let old = c.args.buffer.now in
    let w = c.write-wrote.ensures in
    let r = c.read-read.ensures in
    let said : is_ok c.write-wrote.result ≡ is_ok _ = ap is_ok w.answer in
    let seen = ap (λ o. filled_at o old) (w.row other) in
    record {
      wrote = w.answer;
      read = r.answer ∙ ap read_at (w.row other) ∙ read-written rows page bytes other;
      back = λ ok e. r.buffer ∙ ap (λ k. filled_at (g.D.Device.row c.write-wrote.new.self k) old) e ∙ ap (λ o. filled_at o old) (w.row page ∙ written_same rows page bytes) ∙ filled-over (rows page) bytes old (sym said ∙ ok);
      apart = λ ne. r.buffer ∙ seen ∙ ap (λ o. filled_at o old) (written-other rows page bytes other ne);
      refused = λ no. r.buffer ∙ seen ∙ ap (λ o. filled_at o old) (written-refused rows page bytes (sym said ∙ no) other);
      row = λ k. r.row k ∙ w.row k;
      kept = λ no k. r.row k ∙ w.row k ∙ written-refused rows page bytes (sym said ∙ no) k;
    }
