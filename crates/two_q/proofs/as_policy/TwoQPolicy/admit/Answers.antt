use Rattle.std.proofs.Common.{◌≡◌, ℕ, ◌<◌, Bool, false, Option, sym, ap, ◌∙◌, subst}
use Rattle.policy.specs.Sets.{member}
use Rattle.policy.proofs.Admissions.{leaves, absent}
use Rattle.two_q.specs.Model.{Model, resident, size, forgotten, gone, come, admitted}
use Rattle.two_q.specs.Of.{model}
use Rattle.two_q.proofs.Counts.{room-after, absent-after}
use Rattle.two_q.proofs.Laws.{admitted-resident, admitted-size}
use Rattle.two_q.proofs.as_policy.TwoQPolicy.admit.Goals as goal

pub let_in-requires-clause-room : goal.let_in-requires-clause-room
let_in-requires-clause-room c =
    let m = model c.args.self.now in
    let p = c.args.page in
    let l = c.args.leaving in
    let out = c.let_out.ensures ∙ ap (λ (n : Model). gone n l) c.forget-known.ensures.after in
    subst (λ (n : Model). size n < n.bound) (sym out) (room-after (forgotten m p) l (leaves (resident m) (size m) m.bound p l (sym c.takes.ensures ∙ c.if-not-takes.false)) c.args.self.now.few)

pub let_in-requires-clause-absent : goal.let_in-requires-clause-absent
let_in-requires-clause-absent c =
    let m = model c.args.self.now in
    let p = c.args.page in
    let l = c.args.leaving in
    let out = c.let_out.ensures ∙ ap (λ (n : Model). gone n l) c.forget-known.ensures.after in
    subst (λ (n : Model). resident n p ≡ false) (sym out) (absent-after (forgotten m p) l p (absent (resident m) (size m) m.bound p l (sym c.takes.ensures ∙ c.if-not-takes.false)))

-- the three steps together
steps : (m m₁ m₂ m₃ : Model) (known : Bool) (p : ℕ) (l : Option ℕ) → m₁ ≡ forgotten m p → known ≡ member p m.a1out → m₂ ≡ gone m₁ l → m₃ ≡ come m₂ known p → m₃ ≡ admitted m p l
steps m m₁ m₂ m₃ known p l f k o e = e ∙ ap (λ (n : Model). come n known p) (o ∙ ap (λ (n : Model). gone n l) f) ∙ ap (λ (b : Bool). come (gone (forgotten m p) l) b p) k

pub returns-clause-resident : goal.returns-clause-resident
returns-clause-resident c = λ _ r.
    let m = model c.args.self.now in
    let p = c.args.page in
    let l = c.args.leaving in
    let after = steps m _ _ _ _ p l c.forget-known.ensures.after c.forget-known.ensures.answer c.let_out.ensures c.let_in.ensures in
    ap (λ (n : Model). resident n r) after ∙ admitted-resident m p l c.args.self.now.once (leaves (resident m) (size m) m.bound p l (sym c.takes.ensures ∙ c.if-not-takes.false)) r

pub returns-clause-size : goal.returns-clause-size
returns-clause-size c = λ _.
    let m = model c.args.self.now in
    let p = c.args.page in
    let l = c.args.leaving in
    let after = steps m _ _ _ _ p l c.forget-known.ensures.after c.forget-known.ensures.answer c.let_out.ensures c.let_in.ensures in
    ap size after ∙ admitted-size m p l (leaves (resident m) (size m) m.bound p l (sym c.takes.ensures ∙ c.if-not-takes.false))
