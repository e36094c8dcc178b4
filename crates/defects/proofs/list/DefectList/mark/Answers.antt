use Rattle.std.proofs.Common.{◌<◌, set, Some, sym, refl, ap, ◌∙◌, subst, arith}
use Rattle.std.proofs.lemmas.Bool.{true≢false}
use Rattle.defects.specs.declared.mark.Defect.{Defect}
use Rattle.defects.specs.Defects.{Marking, worst}
use Rattle.defects.specs.Spots.{Spot}
use Rattle.defects.proofs.Places.{spot_accepts, marking}
use Rattle.defects.proofs.list.DefectList.mark.Goals as goal

pub returns : goal.returns
returns g c =
    let ms = c.args.self.now.marks in
    let page = c.args.page in
    let i = c.in_ok-place.place in
    let d = c.args.defect in
    let there : page < g.D.Device.size c.args.self.now.below = omega (arith, c.count.ensures) in
    let s : Spot ms page i = rw c.in_ok-place.ensures.ok_part at c.spot.ensures in
    let worse = c.worse_mark-defect.ensures ∙ ap (λ o. worst o d) c.mark_of.ensures in
    record {
      answer = spot_accepts (g.D.Device.size c.args.self.now.below) ms page i there s;
      accepted = λ _. subst (λ (x : Defect). Marking ms page d (set ms i (Some (record { page = page; defect = x })))) (sym worse) (marking ms page i d s);
      below = refl;
      refused = λ e. absurd (true≢false e);
    }
