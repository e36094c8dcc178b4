use Rattle.std.proofs.Common.{◌≡◌, ℕ, ◌+◌, ◌<◌, ◌≤◌, None, Some, Option, sym, refl, ap, ◌∙◌, subst, arith}
use Rattle.page.specs.declared.refusal.Refusal.TheVariants.{PageFull, NoFrame}
use Rattle.book.specs.Book.{grants, first_no}
use Rattle.book.specs.Call.Call.{Fix}
use Rattle.book.specs.declared.grant.Kind.TheVariants.{Reading, Updating}
use Rattle.frames.specs.Table.{Frame, frame, pins}
use Rattle.frames.specs.declared.slot.Slot.{Slot}
use Rattle.pool.specs.Meaning.{book, pins_at}
use Rattle.pool.specs.Steps.{Room, early, fixed_answer}
use Rattle.pool.specs.declared.vacancy.Vacancy.{Vacancy}
use Rattle.pool.proofs.Asking.{early_no, full_no, room_no, room-yes, seat_yes}
use Rattle.pool.proofs.Doings.{did-refused, did_fix, exit_refused, none_err, verdict-none, verdict-some}
use Rattle.pool.proofs.Holding.{held_all, held-some, held-vacant}
use Rattle.pool.proofs.Places.{at_here, at_out}
use Rattle.pool.proofs.pool.Pool.fix_kind.Goals as goal

-- the slot's grants are those that were counted
slot-few : (x y : Slot) (m : ℕ) → x ≡ y → m ≡ pins x → m < 255 → pins y < 255
slot-few x y m e h l = let z = ap pins e in omega (arith, z)

slot-many : (x y : Slot) (m n : ℕ) → x ≡ y → m ≡ pins x → 255 ≤ m → n ≡ pins y → 255 ≤ n
slot-many x y m n e h l k = let z = ap pins e in omega (arith, z)

pub returns-in_err-ask : goal.returns-in_err-ask
returns-in_err-ask g c =
    let pool = c.args.self.now in
    let b = book pool in
    let kind = c.args.kind in
    let q = c.args.page in
    let no-early = verdict-some (first_no (early b kind q)) _ (sym c.in_err-ask.was ∙ c.ask.ensures.answer) in
    exit_refused pool (Fix kind q) (λ r. fixed_answer r kind pool.mark q) (λ e. refl) c.from_residual.result _ c.from_residual.ensures.1 (early_no b kind q _ no-early)

pub returns-then-pins-ge-MOST_PINS : goal.returns-then-pins-ge-MOST_PINS
returns-then-pins-ge-MOST_PINS g c =
    let pool = c.args.self.now in
    let b = book pool in
    let kind = c.args.kind in
    let q = c.args.page in
    let i = c.in-Some.place.index in
    let found = c.in-Some.ensures in
    let may = verdict-none (first_no (early b kind q)) (sym c.in_ok-ask.was ∙ c.ask.ensures.answer) in
    let out : grants b q ≡ pins (frame pool.frames i).slot = ap (λ (o : Option Frame). pins_at Reading o + pins_at Updating o) (at_here pool.frames.used (frame pool.frames) i q pool.tied.once found.0 found.1) in
    did-refused pool (Fix kind q) PageFull (full_no b kind q may (slot-many _ _ _ _ c.slot.ensures c.pins.ensures c.if-pins-ge-MOST_PINS.true out))

pub returns-in-Some : goal.returns-in-Some
returns-in-Some g c =
    let pool = c.args.self.now in
    let b = book pool in
    let kind = c.args.kind in
    let q = c.args.page in
    let i = c.in-Some.place.index in
    let found = c.in-Some.ensures in
    let may = verdict-none (first_no (early b kind q)) (sym c.in_ok-ask.was ∙ c.ask.ensures.answer) in
    let out : grants b q ≡ pins (frame pool.frames i).slot = ap (λ (o : Option Frame). pins_at Reading o + pins_at Updating o) (at_here pool.frames.used (frame pool.frames) i q pool.tied.once found.0 found.1) in
    let few : pins (frame pool.frames i).slot < 255 = slot-few _ _ _ c.slot.ensures c.pins.ensures c.if-pins-ge-MOST_PINS.false in
    did_fix pool c.take.new.self kind q
    (seat_yes b kind q may (omega (arith, out, few)) (λ z. held-some pool i found.0 (sym out ∙ z)))
    c.take.ensures

pub returns-in_err-vacancy : goal.returns-in_err-vacancy
returns-in_err-vacancy g c =
    let pool = c.args.self.now in
    let b = book pool in
    let kind = c.args.kind in
    let q = c.args.page in
    let may = verdict-none (first_no (early b kind q)) (sym c.in_ok-ask.was ∙ c.ask.ensures.answer) in
    let none : grants b q ≡ 0 = ap (λ (o : Option Frame). pins_at Reading o + pins_at Updating o) (at_out pool.frames.used (frame pool.frames) q c.in_default.ensures) in
    let t = pool.clock + 1 in
    let no : c.room.result ≡ None = c.in_err-vacancy.ensures.ok_part in
    let R : Option Vacancy → Type 0 = λ v. Room pool t v in
    let full = subst R no c.room.ensures in
    let is = none_err c.room.result _ NoFrame no c.in_err-vacancy.ensures.value in
    exit_refused pool (Fix kind q) (λ r. fixed_answer r kind pool.mark q) (λ e. refl) c.from_residual-in_err-vacancy.result _ c.from_residual-in_err-vacancy.ensures.1 (room_no b kind q may none (held_all pool full.0 full.1) ∙ sym (ap Some is))

pub returns : goal.returns
returns g c =
    let pool = c.args.self.now in
    let b = book pool in
    let kind = c.args.kind in
    let q = c.args.page in
    let may = verdict-none (first_no (early b kind q)) (sym c.in_ok-ask.was ∙ c.ask.ensures.answer) in
    let none : grants b q ≡ 0 = ap (λ (o : Option Frame). pins_at Reading o + pins_at Updating o) (at_out pool.frames.used (frame pool.frames) q c.in_default.ensures) in
    let v = c.in_ok-vacancy.vacancy in
    let R : Option Vacancy → Type 0 = λ x. Room pool (pool.clock + 1) x in
    let vac = subst R c.in_ok-vacancy.ensures.ok_part c.room.ensures in
    did_fix pool c.fetch.new.self kind q
    (room-yes b kind q may none (held-vacant pool v.place.index v.leaving vac.place))
    c.fetch.ensures
