use Rattle.std.proofs.Common.{◌+◌, ◌-◌, refl, arith, rules}
use Rattle.std.proofs.lemmas.List.{length-take, places}
use Rattle.recency.proofs.Laws.{to_head_past}
use Rattle.recency.proofs.Shifts.{move_shift}
use Rattle.recency.proofs.list.Recency.move_to_head.Goals as goal

pub returns-then-place-len : goal.returns-then-place-len
returns-then-place-len g c = search (rules, to_head_past)

pub returns : goal.returns
returns g c =
    let s = c.args.self.now in
    let xs = s.records.now in
    let i = c.args.place in
    let n = length-take s.len xs in
    record {
      did = record {
        list = move_shift xs _ c.rotate_right.new.self s.len (i + 1 - 0) i (omega arith) (omega arith) (omega arith) refl c.rotate_right.ensures.after;
        len = refl;
        done = λ h. refl;
        refused = λ h. absurd (omega arith);
        places = let e = c.rotate_right.ensures.len in search (rules, places);
      };
      same = refl;
    }
