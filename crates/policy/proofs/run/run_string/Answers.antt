use Rattle.std.proofs.Common.{◌≡◌, ℕ, ◌+◌, ◌-◌, ◌<◌, length, get_or, take, sym, ap, ◌∙◌, arith}
use Rattle.std.proofs.lemmas.List.{length-take, length-take-le, take_more_set, drop-set-lt, get_or-take}
use Rattle.policy.specs.Runs.{hits}
use Rattle.policy.proofs.Courses.{run_on, drop-one-more, did-run}
use Rattle.policy.proofs.run.run_string.Goals as goal

pub loop-i-preserved : goal.loop-i-preserved
loop-i-preserved g c =
    let p = g.P.Policy in
    let i = c.loop-i.i in
    let s = c.args.string.now in
    let os = c.loop-i.outcomes in
    let n = c.min-most.result in
    let m = p.model c.loop-i.policy in
    let h = c.loop-i.held.items in
    let within : i < length os = omega arith in
    let inside : i < length (take n s) = omega (arith, length-take n s) in
    let page : get_or s i 0 ≡ get_or (take n s) i 0 = sym (get_or-take n s i 0 c.loop-i-test.true) in
    let time : i + 1 ≡ length (take i os) + 1 = omega (arith, length-take-le i os (omega arith)) in (
      run_on p m _ h _ (take i os) _ c.refer.result (take n s) i (get_or s i 0) (i + 1) _ inside c.refer.ensures.turn page time (take_more_set os i c.refer.result within) c.loop-i.invariant.0,
      c.refer.ensures.standing,
      drop-set-lt (i + 1) os i c.refer.result (omega arith) ∙ drop-one-more os c.args.outcomes.now i c.loop-i.invariant.2,
    )

pub returns : goal.returns
returns g c =
    let os = c.loop-i.outcomes in
    let n = c.min-most.result in
    let all : n - 0 ≡ n = omega arith in
    did-run g.P.Policy (g.P.Policy.model c.args.policy.now) c.args.string.now c.args.outcomes.now os _ _ _ n c.loop-i.i c.count_hits-hits.result
    (omega arith) (omega arith) c.restart.ensures.step c.loop-i.auto.outcomes (c.count_hits-hits.ensures.value ∙ ap (λ (k : ℕ). hits (take k os)) all) c.loop-i.invariant.0 c.loop-i.invariant.2
