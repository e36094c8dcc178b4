use Rattle.std.proofs.Common.{◌≡◌, true, false, sym, refl, ◌∙◌}
use Rattle.policy.specs.Sets.{member}
use Rattle.recency.proofs.Pages.{any_member}
use Rattle.blocks.proofs.scan.candidate.Goals as goal

pub returns-then-not-contains : goal.returns-then-not-contains
returns-then-not-contains c =
    let out : member c.args.block.page c.args.listed.now ≡ false = sym (any_member c.args.block.page c.args.listed.now) ∙ sym c.contains.ensures.value ∙ c.if-not-contains.true in
    rw out refl

pub returns-in-Some : goal.returns-in-Some
returns-in-Some c =
    let here : member c.args.block.page c.args.listed.now ≡ true = sym (any_member c.args.block.page c.args.listed.now) ∙ sym c.contains.ensures.value ∙ c.if-not-contains.false in
    rw (here, c.in-Some.is) c.outside.ensures

pub returns-in-None : goal.returns-in-None
returns-in-None c =
    let here : member c.args.block.page c.args.listed.now ≡ true = sym (any_member c.args.block.page c.args.listed.now) ∙ sym c.contains.ensures.value ∙ c.if-not-contains.false in
    rw (here, c.in-None.is) refl
