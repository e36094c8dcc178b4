use Rattle.std.proofs.Common.{ap, ◌∙◌}
use Rattle.two_q.specs.Model.{Model, resident, size}
use Rattle.two_q.specs.Of.{model}
use Rattle.two_q.proofs.Laws.{touched-resident, touched-size}
use Rattle.two_q.proofs.as_policy.TwoQPolicy.hit.Goals as goal

pub returns-then-contains-clause-resident : goal.returns-then-contains-clause-resident
returns-then-contains-clause-resident c = λ q. ap (λ (n : Model). resident n q) c.touch.ensures ∙ touched-resident (model c.args.self.now) c.args.page q

pub returns-then-contains-clause-size : goal.returns-then-contains-clause-size
returns-then-contains-clause-size c = ap size c.touch.ensures ∙ touched-size (model c.args.self.now) c.args.page
