use Rattle.std.proofs.Common.{◌≡◌, ℕ, Option, sym, ap}
use Rattle.frames.specs.Table.{Frame, frame, at}
use Rattle.pool.specs.Meaning.{shown}
use Rattle.pool.proofs.Books.{at_free}
use Rattle.pool.proofs.Opened.{promised}
use Rattle.pool.proofs.pool.Pool.open.Goals as goal

pub returns-clause-promised : goal.returns-clause-promised
returns-clause-promised g c =
    let n = c.new.result.used in
    let F = frame c.new.result in
    let row = g.D.Device.row c.args.device in
    let free : (k : ℕ) → at n F k ≡ _ = λ k. at_free n F k c.new.ensures in
    promised _ (λ q. sym (ap (λ (o : Option Frame). shown o (row q)) (free q)))
