use Rattle.two_q.specs.Of.{model}
use Rattle.two_q.proofs.Strings.{as_printed}
use Rattle.two_q.proofs.run.run_two_q.Goals as goal

pub returns : goal.returns
returns c =
    let q = c.args.policy.now in
    as_printed (model q) c.args.string.now c.args.outcomes.now _ _ _ _ q.frames.least q.frames.most c.run_string.ensures
