use Rattle.std.proofs.Common.{ap, ◌∙◌}
use Rattle.lru_two.specs.Model.{Model, resident, size}
use Rattle.lru_two.specs.Of.{model}
use Rattle.lru_two.proofs.Laws.{touched-resident, touched-size}
use Rattle.lru_two.proofs.as_policy.LruTwoPolicy.hit.Goals as goal

pub returns-clause-resident : goal.returns-clause-resident
returns-clause-resident c = λ q. ap (λ (n : Model). resident n q) c.touch.ensures.after ∙ touched-resident (model c.args.self.now) c.args.page c.args.t q

pub returns-clause-size : goal.returns-clause-size
returns-clause-size c = ap size c.touch.ensures.after ∙ touched-size (model c.args.self.now) c.args.page c.args.t
