use Rattle.std.proofs.Common.{◌≡◌, subst, rules}
use Rattle.page.specs.declared.refusal.Refusal.{Refusal}
use Rattle.page.specs.declared.refusal.Refusal.TheVariants.{ClockFull}
use Rattle.book.specs.Call.Call.{Fix}
use Rattle.book.specs.Call.Answer.{Refused}
use Rattle.pool.specs.Did.{Did}
use Rattle.cached.proofs.Granting.{at_once, not_given, once_more}
use Rattle.cached.proofs.through.grant.Goals as goal

pub returns-in-Ok : goal.returns-in-Ok
returns-in-Ok g c = at_once g.K.Purpose c.args.pool.now c.args.page c.requires c.in-Ok.grant c.fix.new.self c.in-Ok.ensures.grant c.in-Ok.ensures.did

pub returns-then-ne : goal.returns-then-ne
returns-then-ne g c = not_given g.K.Purpose c.args.pool.now c.args.page c.requires c.in-Err.refusal c.fix.new.self (λ e. search rules) c.in-Err.ensures.did

pub returns : goal.returns
returns g c =
    let e : c.in-Err.refusal ≡ ClockFull = search rules in
    let R : Refusal → Type 0 = λ r. Did c.args.pool.now (Fix g.K.Purpose.KIND c.args.page) (Refused r) c.fix.new.self in
    once_more g.K.Purpose c.args.pool.now c.args.page c.requires c.fix.new.self c.renew.new.self c.fix-2.new.self (subst R e c.in-Err.ensures.did) c.renew.ensures c.fix-2.result c.fix-2.ensures.grant c.fix-2.ensures.did
