use Rattle.lru_two.specs.Of.{model}
use Rattle.lru_two.proofs.Strings.{as_printed}
use Rattle.lru_two.proofs.run.run_lru_two.Goals as goal

pub returns : goal.returns
returns c =
    let s = c.args.policy.now in
    as_printed (model s) c.args.string.now c.args.outcomes.now _ _ _ _ s.frames.least s.frames.most c.run_string.ensures
