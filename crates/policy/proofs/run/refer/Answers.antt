use Rattle.std.proofs.Common.{◌≡◌, ℕ, ◌≤◌, true, List, length, sym, ap, ◌∙◌, subst, arith}
use Rattle.policy.specs.Runs.{leaving}
use Rattle.policy.specs.Sets.{Chosen}
use Rattle.policy.proofs.Turns.{Leaving, room, accepted_by, fetched, standing-after}
use Rattle.policy.proofs.run.refer.Given as given
use Rattle.policy.proofs.run.refer.Goals as goal
use Rattle.policy.proofs.run.refer.Goals.{After-leaving-out}

-- what is known once the page that has to leave is known
known : (g : given.Over) (c : After-leaving-out g) → Leaving g.P.Policy (g.P.Policy.model c.hit.new.self) c.args.held.now.items c.args.page c.args.t c.leaving-out.result
known g c = let p = g.P.Policy in let m = p.model c.hit.new.self in record {
  is = c.leaving-out.ensures.value ∙ ap (λ (h : List ℕ). leaving p m h c.args.t) c.as_slice.ensures.value;
  right = subst (λ (h : List ℕ). p.bound m ≤ length h → Chosen (p.resident m) h c.leaving-out.result) c.as_slice.ensures.value c.leaving-out.ensures.right;
  standing = record { resident = λ q. c.hit.ensures.resident q ∙ c.requires.resident q; size = c.hit.ensures.size ∙ c.requires.size };
  kept = g.P.Policy.kept c.hit.new.self;
  absent = c.hit.ensures.resident c.args.page ∙ sym c.hit.ensures.answer ∙ c.if-hit.false;
}

pub swap-requires : goal.swap-requires
swap-requires g c = λ e.
    let k = known g (goal.at.swap-requires g c).After-leaving-out in
    let r = room g.P.Policy _ _ _ _ _ k e in
    omega (arith, k.kept.most)

pub returns : goal.returns
returns g c =
    let k = known g (goal.at.returns g c).After-leaving-out in
    let yes' : c.admit.result ≡ true = accepted_by g.P.Policy _ _ _ _ _ _ k c.admit.ensures.answer in
    record {
      turn = fetched g.P.Policy (g.P.Policy.model c.args.policy.now) c.args.held.now.items c.args.page c.args.t (g.P.Policy.model c.hit.new.self) _ _ _
          (ap g.P.Policy.model (c.hit.ensures.refused c.if-hit.false)) (sym c.hit.ensures.answer ∙ c.if-hit.false) k.is (c.admit.ensures.step yes') c.swap.ensures;
      standing = standing-after g.P.Policy _ _ _ _ _ _ _ k (c.admit.ensures.resident yes') (c.admit.ensures.size yes') c.swap.ensures;
    }
