use Rattle.std.proofs.Common.{ℕ, ◌<◌, ◌≤◌, ltb, List, None, sym, ap, ◌∙◌, arith}
use Rattle.std.proofs.lemmas.Bool.{cond-true, cond-false, lt-ltb, le-ltb}
use Rattle.frames.specs.Table.{frame, idle, page_in}
use Rattle.pool.proofs.Choosing.{all-pinned, chosen-idle, chosen-place}
use Rattle.pool.proofs.Places.{at_where}
use Rattle.pool.proofs.pool.Pool.room.Goals as goal

pub returns-in-Some : goal.returns-in-Some
returns-in-Some g c =
    let pool = c.args.self.now in
    let p = g.P.Policy in
    let m = p.model pool.policy in
    let spare = c.in-Some.ensures in
    let room : p.size m < p.bound m = omega (arith, pool.tied.filled, c.frames.ensures, spare.1) in
    record {
      leaving = sym (cond-true (ltb (p.size m) (p.bound m)) None (p.chosen m _ c.args.t) (lt-ltb (p.size m) (p.bound m) room));
      place = (spare.0, omega (arith, c.frames.ensures, spare.1));
    }

pub returns-in_default-choose : goal.returns-in_default-choose
returns-in_default-choose g c =
    let pool = c.args.self.now in
    let p = g.P.Policy in
    let fs = pool.frames in
    let same = c.deref.ensures.0 ∙ c.idle-idle.ensures in
    let kept = p.kept pool.policy in (
      omega (arith, pool.tied.filled, c.frames.ensures, c.in_default.ensures, kept.within),
      all-pinned fs.used (frame fs) _ _ _ pool.tied _ same c.in_default-choose.ensures.right,
    )

pub returns-in_err-place : goal.returns-in_err-place
returns-in_err-place g c =
    let pool = c.args.self.now in
    let fs = pool.frames in
    let same = c.deref.ensures.0 ∙ c.idle-idle.ensures in
    let w = chosen-idle fs.used (frame fs) _ _ _ pool.tied _ c.in-Some-choose.page same c.in-Some-choose.ensures.right.0 in
    let seat = at_where fs.used (frame fs) c.in-Some-choose.page w.0 w.1 in
    absurd (c.in_err-place.ensures seat.place seat.low (ap page_in seat.is ∙ seat.page))

pub returns : goal.returns
returns g c =
    let pool = c.args.self.now in
    let p = g.P.Policy in
    let m = p.model pool.policy in
    let fs = pool.frames in
    let ls = idle fs.used (frame fs) in
    let same = c.deref.ensures.0 ∙ c.idle-idle.ensures in
    let full : p.bound m ≤ p.size m = omega (arith, pool.tied.filled, c.frames.ensures, c.in_default.ensures) in
    record {
      leaving = c.in-Some-choose.ensures.step
          ∙ ap (λ (l : List ℕ). p.chosen m l c.args.t) same
          ∙ sym (cond-false (ltb (p.size m) (p.bound m)) None (p.chosen m ls c.args.t) (le-ltb (p.size m) (p.bound m) full));
      place = chosen-place fs.used (frame fs) _ _ _ pool.tied _ c.in-Some-choose.page same c.in-Some-choose.ensures.right.0 c.in_ok-place.place (p.bound m) c.in_ok-place.ensures;
    }
