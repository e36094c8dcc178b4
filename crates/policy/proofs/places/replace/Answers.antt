use Rattle.std.proofs.Common.{rules}
use Rattle.std.proofs.lemmas.List.Edits.{map_over_more}
use Rattle.std.proofs.lemmas.List.{take_all, drop_all}
use Rattle.policy.specs.Runs.{instead}
use Rattle.policy.proofs.places.replace.Goals as goal

pub loop-place-preserved : goal.loop-place-preserved
loop-place-preserved c = search (rules, map_over_more (instead c.args.gone c.args.page))

pub returns : goal.returns
returns c = search (rules, take_all, drop_all)
