use Rattle.std.proofs.Common.{◌≡◌, ℕ, ◌<◌, false, Option, sym, ap, ◌∙◌, subst}
use Rattle.blocks.specs.Blocks.{earlier}
use Rattle.policy.proofs.Admissions.{leaves, absent}
use Rattle.lru_two.specs.Model.{Model, resident, size, forgotten, gone, come, admitted}
use Rattle.lru_two.specs.Of.{model}
use Rattle.lru_two.proofs.Laws.{room-after, absent-after, admitted-resident, admitted-size}
use Rattle.lru_two.proofs.as_policy.LruTwoPolicy.admit.Goals as goal

pub let_in-requires-clause-room : goal.let_in-requires-clause-room
let_in-requires-clause-room c =
    let m = model c.args.self.now in
    let p = c.args.page in
    let l = c.args.leaving in
    let out = c.let_out.ensures ∙ ap (λ (n : Model). gone n l) c.forget-hist2.ensures.after in
    subst (λ (n : Model). size n < n.bound) (sym out) (room-after (forgotten m p) l (leaves (resident m) (size m) m.bound p l (sym c.takes.ensures ∙ c.if-not-takes.false)) c.args.self.now.few)

pub let_in-requires-clause-absent : goal.let_in-requires-clause-absent
let_in-requires-clause-absent c =
    let m = model c.args.self.now in
    let p = c.args.page in
    let l = c.args.leaving in
    let out = c.let_out.ensures ∙ ap (λ (n : Model). gone n l) c.forget-hist2.ensures.after in
    subst (λ (n : Model). resident n p ≡ false) (sym out) (absent-after (forgotten m p) l p (leaves (resident m) (size m) m.bound p l (sym c.takes.ensures ∙ c.if-not-takes.false)) (absent (resident m) (size m) m.bound p l (sym c.takes.ensures ∙ c.if-not-takes.false)))

-- the three steps together
steps : (m m₁ m₂ m₃ : Model) (hist2 p t : ℕ) (l : Option ℕ) → m₁ ≡ forgotten m p → hist2 ≡ earlier p m.retained → m₂ ≡ gone m₁ l → m₃ ≡ come m₂ hist2 p t → m₃ ≡ admitted m p l t
steps m m₁ m₂ m₃ hist2 p t l f k o e = e ∙ ap (λ (n : Model). come n hist2 p t) (o ∙ ap (λ (n : Model). gone n l) f) ∙ ap (λ (h : ℕ). come (gone (forgotten m p) l) h p t) k

pub returns-clause-resident : goal.returns-clause-resident
returns-clause-resident c = λ _ r.
    let m = model c.args.self.now in
    let p = c.args.page in
    let l = c.args.leaving in
    let after = steps m _ _ _ _ p c.args.t l c.forget-hist2.ensures.after c.forget-hist2.ensures.answer c.let_out.ensures c.let_in.ensures in
    ap (λ (n : Model). resident n r) after ∙ admitted-resident m p c.args.t l c.args.self.now.once (leaves (resident m) (size m) m.bound p l (sym c.takes.ensures ∙ c.if-not-takes.false)) r

pub returns-clause-size : goal.returns-clause-size
returns-clause-size c = λ _.
    let m = model c.args.self.now in
    let p = c.args.page in
    let l = c.args.leaving in
    let after = steps m _ _ _ _ p c.args.t l c.forget-hist2.ensures.after c.forget-hist2.ensures.answer c.let_out.ensures c.let_in.ensures in
    ap size after ∙ admitted-size m p c.args.t l (leaves (resident m) (size m) m.bound p l (sym c.takes.ensures ∙ c.if-not-takes.false))
