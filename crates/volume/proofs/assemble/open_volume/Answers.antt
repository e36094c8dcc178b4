use Rattle.std.proofs.Common.{◌≡◌, ap, ◌∙◌}
use Rattle.ends.specs.declared.archive.Archive.{Archive}
use Rattle.ends.specs.declared.memory.Memory.{Memory}
use Rattle.layers.specs.declared.join.Join.{Join}
use Rattle.defects.specs.declared.list.DefectList.{DefectList}
use Rattle.defects.specs.Defects.{mark_of}
use Rattle.volume.specs.Volume.{Opened, Unopened}
use Rattle.volume.proofs.Books.{all-marked, put_together, unopened, exit_cases}
use Rattle.volume.proofs.assemble.open_volume.Goals as goal

pub returns-in_err-mark_all : goal.returns-in_err-mark_all
returns-in_err-mark_all c =
    let batch = c.args.batch.now in
    let marks = c.args.marks.now in
    let e = c.in_err-mark_all.field-0.0 in
    let b : c.new-list.result.below.bytes.now ≡ batch = ap (λ (m : Memory). m.bytes.now) c.new-list.ensures.below ∙ c.new.ensures.bytes in
    exit_cases (Opened batch c.args.fees.now c.args.archive.now marks) (Unopened batch marks) c.from_residual.result e c.from_residual.ensures.1
    (unopened batch marks e c.new-list.result c.mark_all.new.list b (c.in_err-mark_all.ensures))

pub returns : goal.returns
returns c =
    let marks = c.args.marks.now in
    let v = c.new-4.result in
    let after = c.in_ok-mark_all.ensures in
    let list : v.first.first ≡ c.mark_all.new.list = ap (λ (j : Join (DefectList Memory) Memory). j.first) c.new-4.ensures.first ∙ c.new-books.ensures.first in
    let fees : v.first.second ≡ c.new-2.result = ap (λ (j : Join (DefectList Memory) Memory). j.second) c.new-4.ensures.first ∙ c.new-books.ensures.second in
    put_together c.args.batch.now c.args.fees.now c.args.archive.now marks v
    (ap (λ (l : DefectList Memory). l.below.bytes.now) list ∙ ap (λ (m : Memory). m.bytes.now) (after.below ∙ c.new-list.ensures.below) ∙ c.new.ensures.bytes)
    (ap (λ (m : Memory). m.bytes.now) fees ∙ c.new-2.ensures.bytes)
    (ap (λ (a : Archive). a.bytes.now) c.new-4.ensures.second ∙ c.new-3.ensures)
    (λ k. ap (λ (l : DefectList Memory). mark_of l.marks k) list ∙ all-marked c.new-list.result c.mark_all.new.list marks c.new-list.ensures.marks after k)
