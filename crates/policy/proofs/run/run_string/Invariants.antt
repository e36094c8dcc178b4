use Rattle.std.proofs.Common.{◌≡◌, take, drop}
use Rattle.policy.specs.Runs.{start, run, Standing}
use Rattle.policy.proofs.run.run_string.Given as goal

abbrev pub invariant-loop-i : goal.invariant-loop-i
invariant-loop-i g l =
    (run g.P.Policy (record { model = g.P.Policy.model l.policy; held = l.held.items; outcomes = take l.i l.outcomes }) (drop l.i (take l.most l.string))
    ≡ run g.P.Policy (start (g.P.Policy.model l.initial.policy)) (take l.most l.string))
    × Standing g.P.Policy (g.P.Policy.model l.policy) l.held.items
    × (drop l.i l.outcomes ≡ drop l.i l.initial.outcomes)
