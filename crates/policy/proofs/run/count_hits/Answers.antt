use Rattle.std.proofs.Common.{◌∙◌, sym, rules, tests}
use Rattle.std.proofs.lemmas.Iterator.{YieldsList-from_slice}
use Rattle.std.proofs.lemmas.Iterator.Consumers.{YieldsList-from_filter, count_from_yields_List}
use Rattle.std.proofs.lemmas.List.Sums.{length-filter}
use Rattle.policy.specs.Runs.{hit_by}
use Rattle.policy.proofs.Tallies.{hits_counted}
use Rattle.policy.proofs.run.count_hits.Goals as goal

pub returns-clause-value : goal.returns-clause-value
returns-clause-value c =
    let os = c.args.outcomes.now in
    count_from_yields_List c.filter-hits.result _ c.count.ensures.ran (YieldsList-from_filter _ hit_by (YieldsList-from_slice os cc) c.filter-hits.ensures.closure (λ x r q k. search (rules, tests)))
    ∙ length-filter hit_by os ∙ sym (hits_counted os)
