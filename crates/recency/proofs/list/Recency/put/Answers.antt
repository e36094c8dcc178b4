use Rattle.std.proofs.Common.{◌+◌, ◌-◌, refl, arith, rules}
use Rattle.std.proofs.lemmas.List.{places}
use Rattle.recency.proofs.Shifts.{put_shift}
use Rattle.recency.proofs.list.Recency.put.Goals as goal

pub returns : goal.returns
returns g c =
    let xs = c.args.self.now.records.now in
    let n = c.len-len.result in
    record {
      did = record {
        done = λ h. (refl, put_shift xs _ c.rotate_right.new.self n (n + 1 - 0) c.args.record c.if-len-self.false (omega arith) refl c.rotate_right.ensures.after c.len-len.ensures.front);
        refused = λ h. absurd (omega arith);
        places = let e = c.rotate_right.ensures.len in search (rules, places);
      };
      same = refl;
    }
