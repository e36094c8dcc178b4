use Rattle.std.proofs.Common.{◌≡◌, ℕ, Option, List, sym, subst, rules}
use Rattle.policy.specs.Sets.{Chosen}
use Rattle.lru_two.specs.Choice.{Choice}
use Rattle.lru_two.specs.Model.{Model, resident, chosen}
use Rattle.lru_two.specs.Of.{model}
use Rattle.lru_two.proofs.Picks.{choice, choice-right}
use Rattle.lru_two.proofs.as_policy.LruTwoPolicy.choose.Goals as goal

right : (m : Model) (l : List ℕ) (t : ℕ) (r : Option ℕ) → r ≡ chosen m l t → Chosen (resident m) l r
right m l t r e = choice-right m l t r (subst (λ (o : Option ℕ). Choice m l t o) (sym e) (choice m l t))

pub returns-clause-right : goal.returns-clause-right
returns-clause-right c = right (model c.args.self.now) c.args.listed.now c.args.t _ (search rules)
