use Rattle.std.proofs.Common.{◌+◌, List, refl, sym, ap, Ok, ◌∙◌, vec_items, is_ok}
use Rattle.std.proofs.lemmas.Bool.{cond-true}
use Rattle.std.proofs.lemmas.List.{length_push}
use Rattle.desk.specs.declared.defect_file.LineMark.{LineMark}
use Rattle.desk.specs.DefectFiles.{with_line, marks_to}
use Rattle.desk.proofs.Parsing.{more_marks, bad_line, no_line}
use Rattle.desk.proofs.defect_file.of_lines.Goals as goal

pub loop-before-init : goal.loop-before-init
loop-before-init g c = λ ls all. ap Ok (sym c.new-marks.ensures.items)

pub returns-in_default : goal.returns-in_default
returns-in_default g c = λ ls all. (
  refl,
  bad_line g.I.Iterator.next_gives ls all c.into_iter-before-iterator.ensures.into_iter_gives c.enumerate-before-items.ensures.source c.enumerate-before-items.ensures.count
      c.loop-before.yielded c.loop-before.before-iterator c.loop-before.yielded_by c.next.result c.next.new.self c.next.ensures.steps
      (vec_items c.loop-before.marks) (c.in-Some.before, c.in-Some.words) _ _ c.in-Some.is (c.loop-before.invariant ls all) c.as_bytes.ensures.value (sym c.in_default.is ∙ c.read_defect_line.ensures),
)

pub loop-before-preserved-in-Continue-1 : goal.loop-before-preserved-in-Continue-1
loop-before-preserved-in-Continue-1 g c = λ ls all.
    let next = more_marks g.I.Iterator.next_gives ls all c.into_iter-before-iterator.ensures.into_iter_gives c.enumerate-before-items.ensures.source c.enumerate-before-items.ensures.count
    c.loop-before.yielded c.loop-before.before-iterator c.loop-before.yielded_by c.next.result c.next.new.self c.next.ensures.steps
    (vec_items c.loop-before.marks) (c.in-Some.before, c.in-Some.words) _ _ c.in-Some.is (c.loop-before.invariant ls all) c.as_bytes.ensures.value c.read_defect_line.ensures in
    let kept = sym c.map_err.ensures.variant ∙ ap is_ok c.in_ok-map_err.was in
    let pushed = c.push.ensures.items ∙ cond-true {A = List LineMark} (is_ok c.push.result) _ _ kept in
    ap (marks_to ls) (length_push c.loop-before.yielded (c.in-Some.before, c.in-Some.words)) ∙ next
    ∙ ap (with_line (c.in-Some.before + 1) (vec_items c.loop-before.marks)) (c.in-Ok.is ∙ ap Ok c.in-Some-read.is) ∙ ap Ok (sym pushed)

pub loop-before-preserved : goal.loop-before-preserved
loop-before-preserved g c = λ ls all.
    let next = more_marks g.I.Iterator.next_gives ls all c.into_iter-before-iterator.ensures.into_iter_gives c.enumerate-before-items.ensures.source c.enumerate-before-items.ensures.count
    c.loop-before.yielded c.loop-before.before-iterator c.loop-before.yielded_by c.next.result c.next.new.self c.next.ensures.steps
    (vec_items c.loop-before.marks) (c.in-Some.before, c.in-Some.words) _ _ c.in-Some.is (c.loop-before.invariant ls all) c.as_bytes.ensures.value c.read_defect_line.ensures in
    ap (marks_to ls) (length_push c.loop-before.yielded (c.in-Some.before, c.in-Some.words)) ∙ next
    ∙ ap (with_line (c.in-Some.before + 1) (vec_items c.loop-before.marks)) (c.in-Ok.is ∙ ap Ok c.in_default-read.is)

pub returns : goal.returns
returns g c = λ ls all. (
  refl,
  no_line g.I.Iterator.next_gives ls all c.into_iter-before-iterator.ensures.into_iter_gives c.enumerate-before-items.ensures.source c.enumerate-before-items.ensures.count
      c.loop-before.yielded c.loop-before.before-iterator c.loop-before.yielded_by c.next.result c.next.new.self c.next.ensures.steps
      (vec_items c.loop-before.marks) c.in-None.is (c.loop-before.invariant ls all),
)
