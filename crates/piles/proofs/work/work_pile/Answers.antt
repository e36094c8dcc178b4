use Rattle.std.proofs.Common.{◌∙◌}
use Rattle.piles.proofs.Down.{past_end, marked-lost, unmarked-below, other-below}
use Rattle.piles.proofs.work.work_pile.Goals as goal

pub returns : goal.returns
returns g c =
    let s = c.args.pile.now in
    let f = s.first in
    let l = s.length in
    let n = g.D.Device.size s.below.first.below in
    let ms = s.below.first.marks in
    let r = g.D.Device.row s.below.first.below in
    let t = g.E.Device.row s.below.second in
    let p = c.args.page in
    let shape = g.D.Device.shaped s.below.first.below in
    let told = c.write_then_read.ensures in
    record {
      both = told;
      past = λ h. told.wrote ∙ past_end f l n ms r t p h;
      lost = λ h i e. told.wrote ∙ marked-lost f l n ms r t p h shape i e;
      plain = λ h i e. told.wrote ∙ unmarked-below f l n ms r t p h shape i e;
      beside = λ h i m. told.wrote ∙ other-below f l n ms r t p h i m;
    }
