use Rattle.std.proofs.Common.{sym, refl, ap, ◌∙◌, arith, rules}
use Rattle.std.specs.Option.{ok_or}
use Rattle.std.proofs.lemmas.List.{length-take, places}
use Rattle.std.proofs.lemmas.Option.{slice_get_past}
use Rattle.page.specs.declared.refusal.Refusal.TheVariants.{PastLength}
use Rattle.recency.specs.Recent.{without}
use Rattle.recency.proofs.Laws.{nth_front, without-past}
use Rattle.recency.proofs.Shifts.{take_shift}
use Rattle.recency.proofs.list.Recency.take.Goals as goal

pub returns-then-place-len : goal.returns-then-place-len
returns-then-place-len g c = search (rules, slice_get_past, without-past)

pub returns : goal.returns
returns g c =
    let s = c.args.self.now in
    let xs = s.records.now in
    let i = c.args.place in
    let n = length-take s.len xs in
    record {
      did = record {
        answer = sym (ap (λ o. ok_or o PastLength) (nth_front xs s.len i c.index-self-place.result (omega arith) (omega arith)));
        list = take_shift xs _ c.rotate_left.new.self c.len-len.result i c.if-place-len.false c.len-len.ensures.within refl c.rotate_left.ensures.after ∙ ap (λ t. without t i) c.len-len.ensures.front;
        done = λ h. refl;
        refused = λ h. absurd (omega arith);
        places = let e = c.rotate_left.ensures.len in search (rules, places);
      };
      same = refl;
    }
