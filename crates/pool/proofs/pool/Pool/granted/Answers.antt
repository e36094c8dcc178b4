use Rattle.std.proofs.Common.{◌≡◌, ℕ, ◌<◌, None, Err, Option, Result, sym, ap, ◌∙◌, subst, arith}
use Rattle.page.specs.declared.refusal.Refusal.{Refusal}
use Rattle.page.specs.declared.refusal.Refusal.TheVariants.{NotGranted}
use Rattle.book.specs.Book.{granted}
use Rattle.frames.specs.Calls.{Found}
use Rattle.frames.specs.declared.place.Place.{Place}
use Rattle.frames.specs.Table.{frame, at, pins_of}
use Rattle.pool.specs.Did.{ticket}
use Rattle.pool.specs.Meaning.{book, pins_at}
use Rattle.pool.specs.Steps.{Out}
use Rattle.pool.proofs.Doings.{exit_err, none_err}
use Rattle.pool.proofs.Granting.{grant-yes, grant_no}
use Rattle.pool.proofs.Places.{at_here, at_out}
use Rattle.pool.proofs.Taking.{granted_at}
use Rattle.pool.proofs.pool.Pool.granted.Goals as goal
use Rattle.pool.proofs.pool.Pool.granted.Goals.{then-grant-self-via-then-grant-self, then-grant-self-via-else-grant-self+then-pins_of-eq0}

pub returns-in_err-place : goal.returns-in_err-place
returns-in_err-place g c =
    let pool = c.args.self.now in
    let b = book pool in
    let t = ticket g.K.Purpose c.args.grant.now in
    let o = at pool.frames.used (frame pool.frames) in
    let none : c.find.result ≡ None = c.in_err-place.ensures.ok_part in
    let err = exit_err c.from_residual.result _ c.from_residual.ensures.1 ∙ ap Err (none_err c.find.result _ NotGranted none c.in_err-place.ensures.value) in
    let A : Option Place → Type 0 = λ i. Found pool.frames.used (frame pool.frames) t.page i in
    let R : Result Place Refusal → Type 0 = λ r. Out pool t r in
    subst R (sym err) (grant_no b t.kind t.mark t.page (λ e. granted_at t.kind o t.page ∙ ap (pins_at t.kind) (at_out pool.frames.used (frame pool.frames) t.page (subst A none c.find.ensures))))

pub returns-then-grant-self : goal.returns-then-grant-self
returns-then-grant-self g c =
    let pool = c.args.self.now in
    let b = book pool in
    let t = ticket g.K.Purpose c.args.grant.now in
    let n = pool.frames.used in
    let F = frame pool.frames in
    let A : Option Place → Type 0 = λ i. Found n F t.page i in
    let found = subst A c.in_ok-place.ensures.ok_part c.find.ensures in
    grant_no b t.kind t.mark t.page (λ e.
    elim c.then-grant-self.branch [
      | then-grant-self-via-then-grant-self w ↦ absurd (w.if-grant-self.true e)
      | then-grant-self-via-else-grant-self+then-pins_of-eq0 w ↦
          granted_at t.kind (at n F) t.page ∙ ap (pins_at t.kind) (at_here n F c.in_ok-place.place.index t.page pool.tied.once found.0 found.1)
          ∙ ap (pins_of t.kind) (sym w.slot.ensures) ∙ ap (λ k. pins_of k w.slot.result) (sym w.KIND.ensures) ∙ sym w.pins_of.ensures ∙ w.if-pins_of-eq0.true
    ])

pub returns : goal.returns
returns g c =
    let pool = c.args.self.now in
    let b = book pool in
    let t = ticket g.K.Purpose c.args.grant.now in
    let n = pool.frames.used in
    let F = frame pool.frames in
    let i = c.in_ok-place.place.index in
    let A : Option Place → Type 0 = λ i. Found n F t.page i in
    let found = subst A c.in_ok-place.ensures.ok_part c.find.ensures in
    let out : granted b t.kind t.page ≡ pins_of t.kind (F i).slot = granted_at t.kind (at n F) t.page ∙ ap (pins_at t.kind) (at_here n F i t.page pool.tied.once found.0 found.1) in
    let few : 0 < pins_of t.kind (F i).slot = above _ _ (c.pins_of.ensures ∙ ap (λ k. pins_of k c.slot.result) c.KIND.ensures ∙ ap (pins_of t.kind) c.slot.ensures) c.if-pins_of-eq0.false in
    (grant-yes b t.kind t.mark t.page c.if-grant-self.false (more _ _ out few), found.0, found.1, few)
  where
    above : (m n : ℕ) → m ≡ n → (m ≡ 0 → ⊥) → 0 < n
    above m n e h = omega arith

    more : (m n : ℕ) → m ≡ n → 0 < n → 0 < m
    more m n e l = omega arith
