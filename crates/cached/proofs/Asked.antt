-- What a pool with no grant out answers to a fix.
use Rattle.std.proofs.Common.{◌≡◌, ℕ, zero, suc, ◌<◌, ◌≤◌, Bool, true, false, cond, ◌||◌, ltb, [], ◌∷◌, is_some, Some, None, Ok, Err, Option, Result, sym, refl, ap, ◌∙◌, arith}
use Rattle.std.proofs.lemmas.Bool.{lt-ltb, le-ltb, ltb-false}
use Rattle.page.specs.declared.refusal.Refusal.{Refusal}
use Rattle.page.specs.declared.refusal.Refusal.TheVariants.{NoSuchPage, ClockFull, PageFull, NoFrame}
use Rattle.device.specs.Row.{Page, sound, worn, lost}
use Rattle.device.specs.declared.device.Device as device
use Rattle.policy.specs.declared.policy.Policy as policy
use Rattle.book.specs.Book.{Book, by_kind, grants, held, held_below, is_not_lost, is_not_worn, first_no, refusal, ◌otherwise◌}
use Rattle.book.specs.Call.Call.{Fix}
use Rattle.book.specs.declared.grant.Kind.{Kind}
use Rattle.book.specs.declared.grant.Kind.TheVariants.{Reading, Updating}
use Rattle.pool.specs.Meaning.{book, held as held_in}
use Rattle.pool.specs.declared.pool.Pool.{Pool}
use Rattle.cached.specs.Idle.{Idle}
use Rattle.cached.specs.Shown.{some_shown}
use Rattle.cached.specs.Steps.{answer_at}

-- the device's answer, and then whether the clock is not full
then_clock : Result (Unit {0}) Refusal → Bool → Option Refusal
then_clock (Ok x) t = t otherwise ClockFull
then_clock (Err e) t = Some e

clock_last : (t : Bool) → first_no ((t otherwise ClockFull) ∷ (true otherwise PageFull) ∷ ((false || true) otherwise NoFrame) ∷ []) ≡ t otherwise ClockFull
clock_last true = refl
clock_last false = refl

by_page : (kind : Kind) (o : Option Page) (t : Bool) → first_no ((is_some o otherwise NoSuchPage) ∷ is_not_lost o ∷ by_kind kind None (is_not_worn o) ∷ (t otherwise ClockFull) ∷ (true otherwise PageFull) ∷ ((false || true) otherwise NoFrame) ∷ []) ≡ then_clock (answer_at kind o) t
unfolding then_clock
by_page Reading None t = refl
by_page Reading (Some (sound bs)) t = clock_last t
by_page Reading (Some (worn x bs)) t = clock_last t
by_page Reading (Some (lost x)) t = refl
by_page Updating None t = refl
by_page Updating (Some (sound bs)) t = clock_last t
by_page Updating (Some (worn x bs)) t = refl
by_page Updating (Some (lost x)) t = refl

then-none : (x : Result (Unit {0}) Refusal) (t : Bool) → then_clock x t ≡ None → x ≡ Ok tt
unfolding then_clock
then-none (Ok x) t h = refl
then-none (Err e) t h = let z : ◌≡◌ {A = ℕ} 0 1 = cc in absurd (omega arith)

then-some : (x : Result (Unit {0}) Refusal) (t : Bool) (r : Refusal) → then_clock x t ≡ Some r → (r ≡ ClockFull → ⊥) → x ≡ Err r
unfolding then_clock
then-some (Ok x) true r h ne = let z : ◌≡◌ {A = ℕ} 0 1 = cc in absurd (omega arith)
then-some (Ok x) false r h ne = absurd (ne cc)
then-some (Err e) t r h ne = cc

then-full : (x : Result (Unit {0}) Refusal) (t : Bool) → (x ≡ Err ClockFull → ⊥) → then_clock x t ≡ Some ClockFull → (x ≡ Ok tt) × (t ≡ false)
unfolding then_clock
then-full (Ok x) true ne h = let z : ◌≡◌ {A = ℕ} 0 1 = cc in absurd (omega arith)
then-full (Ok x) false ne h = (refl, refl)
then-full (Err e) t ne h = absurd (ne cc)

then_may : (x : Result (Unit {0}) Refusal) (t : Bool) → x ≡ Ok tt → t ≡ true → then_clock x t ≡ None
unfolding then_clock
then_may x t e h = λ i. then_clock (e i) (h i)

never_full : (kind : Kind) (o : Option Page) → answer_at kind o ≡ Err ClockFull → ⊥
never_full Reading None h = let z : ◌≡◌ {A = ℕ} 0 1 = cc in omega arith
never_full Reading (Some (sound bs)) h = let z : ◌≡◌ {A = ℕ} 0 1 = cc in omega arith
never_full Reading (Some (worn x bs)) h = let z : ◌≡◌ {A = ℕ} 0 1 = cc in omega arith
never_full Reading (Some (lost x)) h = let z : ◌≡◌ {A = ℕ} 0 1 = cc in omega arith
never_full Updating None h = let z : ◌≡◌ {A = ℕ} 0 1 = cc in omega arith
never_full Updating (Some (sound bs)) h = let z : ◌≡◌ {A = ℕ} 0 1 = cc in omega arith
never_full Updating (Some (worn x bs)) h = let z : ◌≡◌ {A = ℕ} 0 1 = cc in omega arith
never_full Updating (Some (lost x)) h = let z : ◌≡◌ {A = ℕ} 0 1 = cc in omega arith

-- no page is held where none has a grant out
held_idle : (b : Book) (n : ℕ) → ((q : ℕ) → grants b q ≡ 0) → held_below n b ≡ 0
held_idle b zero h = refl
held_idle b (suc n) h =
    let e : ◌≡◌ {A = ℕ} (cond (ltb 0 (grants b n)) 1 0) 0 = ap (λ (g : ℕ). cond (ltb 0 g) 1 0) (h n) in
    let k = held_idle b n h in
    omega (arith, e, k)

module _ {D P : Type 0} {d : device.Ghosts D} {p : policy.Ghosts P} (pool : Pool D P d p) (idle : Idle pool) (kind : Kind) (page : ℕ) where
  abbrev seen : Result (Unit {0}) Refusal
  seen = answer_at kind ((book pool).pages page)

  none_out : grants (book pool) page ≤ 0
  none_out = let z = idle page in omega (arith, z)

  few_out : grants (book pool) page < 255
  few_out = let z = idle page in omega (arith, z)

  room : held (book pool) < (book pool).bound
  room =
      let h = held_idle (book pool) (book pool).size idle in
      let l = (p.kept pool.policy).least in
      omega (arith, h, l)

  asked : refusal (book pool) (Fix kind page) ≡ then_clock seen (ltb pool.clock 4294967295)
  asked =
      let b = book pool in
      let o = b.pages page in
      let e1 : ltb page b.size ≡ is_some o = sym (some_shown (held_in pool page) (d.row pool.device page) ∙ (d.shaped pool.device).exact page) in
      let e2 : ltb (grants b page) 255 ≡ true = lt-ltb (grants b page) 255 few_out in
      let e3 : ltb 0 (grants b page) ≡ false = le-ltb 0 (grants b page) none_out in
      let e4 : ltb (held b) b.bound ≡ true = lt-ltb (held b) b.bound room in
      (λ i. first_no ((e1 i otherwise NoSuchPage) ∷ is_not_lost o ∷ by_kind kind None (is_not_worn o) ∷ (ltb b.clock 4294967295 otherwise ClockFull) ∷ (e2 i otherwise PageFull) ∷ ((e3 i || e4 i) otherwise NoFrame) ∷ []))
      ∙ by_page kind o (ltb b.clock 4294967295)

  -- an accepted fix is one that the device accepts
  pub as-accepted : refusal (book pool) (Fix kind page) ≡ None → seen ≡ Ok tt
  as-accepted h = then-none seen (ltb pool.clock 4294967295) (sym asked ∙ h)

  -- a refused one is refused as by the device, but for the clock
  pub as-refused : (r : Refusal) → refusal (book pool) (Fix kind page) ≡ Some r → (r ≡ ClockFull → ⊥) → seen ≡ Err r
  as-refused r h ne = then-some seen (ltb pool.clock 4294967295) r (sym asked ∙ h) ne

  pub at_last : refusal (book pool) (Fix kind page) ≡ Some ClockFull → (seen ≡ Ok tt) × (4294967295 ≤ pool.clock)
  at_last h =
      let f = then-full seen (ltb pool.clock 4294967295) (never_full kind ((book pool).pages page)) (sym asked ∙ h) in
      (f.0, ltb-false pool.clock 4294967295 f.1)

  -- before the last time the device's answer is the fix's
  pub in_time : seen ≡ Ok tt → pool.clock < 4294967295 → refusal (book pool) (Fix kind page) ≡ None
  in_time h l = asked ∙ then_may seen (ltb pool.clock 4294967295) h (lt-ltb pool.clock 4294967295 l)
