use Rattle.std.proofs.Common.{◌≡◌, ℕ, ◌+◌, min, true, Some, None, sym, refl, ap, ◌∙◌, subst, inl, arith}
use Rattle.std.proofs.lemmas.Bool.{cond-true}
use Rattle.policy.specs.declared.outcome.Outcome.TheVariants.{Hit}
use Rattle.book.specs.Book.{by_kind, put, is_not_worn}
use Rattle.book.specs.declared.grant.Kind.TheVariants.{Reading, Updating}
use Rattle.frames.specs.Table.{frame, at, idle, pins_of, pinned, with_slot}
use Rattle.pool.specs.Meaning.{book, pins_at}
use Rattle.pool.specs.Tied.{Stands}
use Rattle.pool.proofs.Asking.{early-found, worn-shown}
use Rattle.pool.proofs.Books.{same-book}
use Rattle.pool.proofs.Changes.{put-tied, put-pages, put-reading, put-updating}
use Rattle.pool.proofs.Choosing.{candidates}
use Rattle.pool.proofs.Places.{at_here}
use Rattle.pool.proofs.Standing.{stands_at, resident_at, pinned-stands}
use Rattle.pool.proofs.Taking.{pins-one-more, saturated, granted_at}
use Rattle.pool.proofs.pool.Pool.take.Goals as goal

pub invariant_of-self : goal.invariant_of-self
invariant_of-self g c =
    let d = g.D.Device in
    let pool = c.args.self.now in
    let r = c.requires in
    let n = pool.frames.used in
    let F = frame pool.frames in
    let i = c.args.place.index in
    let kind = c.args.kind in
    let q = c.args.page in
    let f = F i in
    let f' = with_slot f (pinned kind f.slot) in
    let row = d.row pool.device in
    let asked = early-found (book pool) kind q r.early in
    let sound : by_kind kind None (is_not_worn (row q)) ≡ None = ap (by_kind kind None) (sym (worn-shown (at n F q) (row q))) ∙ asked.not_worn in
    let st = stands_at n F row _ _ pool.tied i q r.low r.here in
    let S : ℕ → Type 0 = λ k. Stands (Some f') (row k) in
    let count : c.saturating_add-self.result ≡ pool.hits + 1 = c.saturating_add-self.ensures ∙ saturated pool.hits pool.fetches pool.clock pool.counts asked.time in
    record {
      tied = put-tied n F i f' c.pin.new.self.used (frame c.pin.new.self) c.pin.ensures.used r.low pool.tied.once refl c.pin.ensures.frames row row _ _ _ _ pool.tied (subst S (sym r.here) (pinned-stands kind f (row q) _ sound st)) (λ k ne. refl) c.hit.ensures.resident c.hit.ensures.size;
      counts = omega (arith, count, r.time, pool.counts);
    }

pub returns : goal.returns
returns g c =
    let low = c.requires.low in
    let page = c.requires.here in
    let few = c.requires.few in
    let d = g.D.Device in
    let p = g.P.Policy in
    let pool = c.args.self.now in
    let b = book pool in
    let n = pool.frames.used in
    let F = frame pool.frames in
    let i = c.args.place.index in
    let kind = c.args.kind in
    let q = c.args.page in
    let f = F i in
    let f' = with_slot f (pinned kind f.slot) in
    let n' = c.pin.new.self.used in
    let F' = frame c.pin.new.self in
    let used = c.pin.ensures.used in
    let is = c.pin.ensures.frames in
    let row = d.row pool.device in
    let m = p.model pool.policy in
    let once = pool.tied.once in
    let hit : c.hit.result ≡ true = c.hit.ensures.answer ∙ resident_at n F row _ _ pool.tied i q low page in
    let asked = early-found b kind q c.requires.early in
    let R : ℕ → ℕ = λ k. pins_at Reading (at n F k) in
    let U : ℕ → ℕ = λ k. pins_at Updating (at n F k) in
    let more : min (pins_of kind f.slot + 1) 255 ≡ by_kind kind R U q + 1 =
    pins-one-more kind f.slot few ∙ ap (λ (x : ℕ). x + 1) (sym (granted_at kind (at n F) q ∙ ap (pins_at kind) (at_here n F i q once low page))) in
    let count : c.saturating_add-self.result ≡ pool.hits + 1 = c.saturating_add-self.ensures ∙ saturated pool.hits pool.fetches pool.clock pool.counts asked.time in
    record {
      next = same-book _ _ refl c.hit.ensures.bound refl refl
          (put-pages n F i f' n' F' used low once refl is row row refl (λ k. refl))
          (λ k. put-reading n F i f' n' F' used low once refl is kind (min (pins_of kind f.slot + 1) 255) refl k ∙ ap (λ (x : ℕ). by_kind kind (put R x (min (pins_of kind f.slot + 1) 255)) R k) page ∙ ap (λ (y : ℕ). by_kind kind (put R q y) R k) more)
          (λ k. put-updating n F i f' n' F' used low once refl is kind (min (pins_of kind f.slot + 1) 255) refl k ∙ ap (λ (x : ℕ). by_kind kind U (put U x (min (pins_of kind f.slot + 1) 255)) k) page ∙ ap (λ (y : ℕ). by_kind kind U (put U q y) k) more);
      outcome = Hit;
      turn = record {
        listed = idle n F;
        exact = candidates n F row _ _ pool.tied;
        outcome = sym (cond-true (p.resident m q) Hit _ (resident_at n F row _ _ pool.tied i q low page));
        course = λ k. record { model = c.hit.ensures.step hit k; hits = count k; fetches = pool.fetches };
        resident = c.hit.ensures.resident;
      };
      left = λ k l. absurd l;
      below = λ k. inl refl;
    }
