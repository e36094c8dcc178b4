-- The fix with which an accepted call begins.
use Rattle.std.proofs.Common.{◌≡◌, ℕ, None, Ok, Err, Result, sym, refl, ap, ◌∙◌, subst}
use Rattle.page.specs.declared.refusal.Refusal.{Refusal}
use Rattle.page.specs.declared.refusal.Refusal.TheVariants.{ClockFull}
use Rattle.device.specs.declared.device.Device as device
use Rattle.policy.specs.declared.policy.Policy as policy
use Rattle.book.specs.Book.{refusal}
use Rattle.book.specs.Call.Call.{Fix}
use Rattle.book.specs.Call.Answer.{Granted, Refused}
use Rattle.book.specs.declared.grant.Ticket.{Ticket}
use Rattle.pool.specs.Did.{Did, DidRenew, Gives, given, granted, ticket}
use Rattle.pool.specs.Meaning.{book}
use Rattle.pool.specs.declared.grant.Grant.{Grant}
use Rattle.pool.specs.declared.pool.Pool.{Pool}
use Rattle.pool.specs.declared.purpose.Purpose as purpose
use Rattle.pool.proofs.Places.{some-none}
use Rattle.book.proofs.Asked.{fixed}
use Rattle.cached.specs.Idle.{Idle}
use Rattle.cached.specs.Steps.{answer_at, DidGrant}
use Rattle.cached.specs.Through.{grant_of, Begins}
use Rattle.cached.proofs.Asked.{as-accepted, as-refused, at_last, in_time}
use Rattle.cached.proofs.Beginning.{begins_here, begins_renewed, renewed, renewed-clock}
use Rattle.cached.proofs.Granted.{fix-accepted, fix-refused, after-refusal}

module _ {D P K : Type 0} {d : device.Ghosts D} {p : policy.Ghosts P} (k : purpose.Ghosts K) (pool : Pool D P d p) (page : ℕ) (idle : Idle pool) where
  -- what the book hears of a grant that was just given
  as_given : (g : Grant K) (mark : ℕ) → g ≡ given mark page → mark ≡ pool.mark → ticket k g ≡ grant_of pool k.KIND page
  as_given g mark e m = ap (ticket k) e ∙ ap (λ (x : ℕ). ticket k (given x page)) m

  -- the first fix is accepted: the clock was not full
  pub at_once : (g : Grant K) (one : Pool D P d p) → g ≡ given pool.mark page → Did pool (Fix k.KIND page) (Granted (ticket k g)) one → DidGrant pool k.KIND page (Ok g) one
  at_once g one e h =
      let yes_it = fix-accepted (book pool) k.KIND page (ticket k g) h.doing.step.answer in
      let F : Ticket → Type 0 = λ t. Did pool (Fix k.KIND page) (Granted t) one in (
        as-accepted pool idle k.KIND page yes_it,
        e,
        record { start = pool; begins = begins_here pool (fixed (book pool) k.KIND page yes_it).time; fix = subst F (as_given g pool.mark e refl) h },
      )

  -- it is refused, but not for the clock
  pub not_given : (r : Refusal) (one : Pool D P d p) → (r ≡ ClockFull → ⊥) → Did pool (Fix k.KIND page) (Refused r) one → DidGrant {K = K} pool k.KIND page (Err r) one
  not_given r one ne h = (
    as-refused pool idle k.KIND page r (fix-refused (book pool) k.KIND page r h.doing.step.answer) ne,
    after-refusal pool one k.KIND page r h,
  )

  -- it is refused for the clock, and accepted after a renewal
  pub once_more : (full start one : Pool D P d p) → Did pool (Fix k.KIND page) (Refused ClockFull) full → DidRenew full start → (r : Result (Grant K) Refusal) → Gives r (given start.mark page) → Did start (Fix k.KIND page) (granted (ticket k) r) one → DidGrant pool k.KIND page r one
  once_more full start one h w r gives did =
      let same : full ≡ pool = after-refusal pool full k.KIND page ClockFull h in
      let R : Pool D P d p → Type 0 = λ x. DidRenew x start in
      let v : DidRenew pool start = subst R same w in
      let last = at_last pool idle k.KIND page (fix-refused (book pool) k.KIND page ClockFull h.doing.step.answer) in
      let b = renewed pool start v in
      let now_yes = in_time start b.idle k.KIND page (ap (answer_at k.KIND) (b.pages page) ∙ last.0) (renewed-clock pool start v) in
      go last.0 b.mark now_yes (begins_renewed pool start last.1 v) r gives did
    where
      go : answer_at k.KIND ((book pool).pages page) ≡ Ok tt → start.mark ≡ pool.mark → refusal (book start) (Fix k.KIND page) ≡ None → Begins pool start → (r : Result (Grant K) Refusal) → Gives r (given start.mark page) → Did start (Fix k.KIND page) (granted (ticket k) r) one → DidGrant pool k.KIND page r one
      go ok mark now_yes begins (Err e) gives did = absurd (some-none e (sym (fix-refused (book start) k.KIND page e did.doing.step.answer) ∙ now_yes))
      go ok mark now_yes begins (Ok g) gives did =
          let F : Ticket → Type 0 = λ t. Did start (Fix k.KIND page) (Granted t) one in (
            ok,
            gives ∙ ap (λ (x : ℕ). given x page) mark,
            record { start = start; begins = begins; fix = subst F (as_given g start.mark gives mark) did },
          )
