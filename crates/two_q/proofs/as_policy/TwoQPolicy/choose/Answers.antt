use Rattle.std.proofs.Common.{◌≡◌, ℕ, List, Option, sym, subst, rules}
use Rattle.policy.specs.Sets.{Chosen}
use Rattle.two_q.specs.Model.{Model, resident, chosen}
use Rattle.two_q.specs.Of.{model}
use Rattle.two_q.proofs.Laws.{chosen-right}
use Rattle.two_q.proofs.as_policy.TwoQPolicy.choose.Goals as goal

right : (m : Model) (l : List ℕ) (r : Option ℕ) → r ≡ chosen m l → Chosen (resident m) l r
right m l r e = subst (λ (o : Option ℕ). Chosen (resident m) l o) (sym e) (chosen-right m l)

pub returns-then-len-kin-clause-right : goal.returns-then-len-kin-clause-right
returns-then-len-kin-clause-right c = right (model c.args.self.now) c.args.listed.now _ (search rules)

pub returns-clause-right : goal.returns-clause-right
returns-clause-right c = right (model c.args.self.now) c.args.listed.now _ (search rules)
