use Rattle.std.proofs.Common.{sym, ap, ◌∙◌}
use Rattle.book.specs.Book.{Book}
use Rattle.pool.specs.Did.{at_time}
use Rattle.pool.proofs.Opened.{promised}
use Rattle.pool.proofs.pool.Pool.open_at.Goals as goal

pub returns : goal.returns
returns g c =
    let d = g.D.Device in
    let o = c.open-pool.ensures.opened in
    let t = c.args.time in
    record {
      opened = record {
        device = o.device;
        book = ap (λ (b : Book). at_time b t) o.book;
        course = o.course;
      };
      promised = promised _ (λ q. ap (λ x. d.row x q) o.device ∙ sym (ap (λ (b : Book). b.pages q) o.book));
    }
