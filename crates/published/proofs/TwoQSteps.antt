-- One accepted fix of a pool under 2Q is one access of 2Q among the free pages.
use Rattle.std.proofs.Common.{◌≡◌, ℕ, ◌≤◌, Bool, true, false, cond, eqb, ltb, List, [], ◌∷◌, length, Some, None, Option, sym, refl, ap, ◌∙◌, subst, arith, ltb-false, ltb-true, eq-eqb}
use Rattle.std.specs.Option.{option_or}
use Rattle.recency.proofs.Pages.{by_bool}
use Rattle.policy.specs.Once.{not_counted}
use Rattle.policy.specs.Runs.{left_by}
use Rattle.policy.proofs.Admissions.{Leaves}
use Rattle.policy.proofs.Counts.{none-less, member-counted}
use Rattle.policy.specs.Sets.{member, Chosen}
use Rattle.policy.specs.declared.outcome.Outcome.{Outcome}
use Rattle.policy.specs.declared.outcome.Outcome.TheVariants.{Hit, Fetch}
use Rattle.two_q.specs.AsPrinted.{of_queues}
use Rattle.two_q.specs.Lists.{less, nearest_tail}
use Rattle.two_q.specs.Model.{Model, resident, size, touched, chosen, forgotten, gone, come, admitted}
use Rattle.two_q.specs.Of.{two_q}
use Rattle.two_q.specs.Printed.{Queues, Kin, Kout, put, Reclaimed, Accessed, found, onto_am, onto_ain}
use Rattle.two_q.proofs.Accesses.{left-fetch}
use Rattle.two_q.proofs.Counts.{gone-a1in, gone_am}
use Rattle.two_q.proofs.Laws.{chosen-right}
use Rattle.two_q.proofs.Models.{models}
use Rattle.two_q.proofs.Pages.{none-moved}
use Rattle.two_q.proofs.Reclaims.{Same}
use Rattle.two_q.proofs.Sounds.{Sound, kept-sound, touched-sound, forgotten-sound, admitted-sound}
use Rattle.two_q.proofs.Tails.{take-cut}
use Rattle.turns.specs.Turns.{Course, outcome_of, after}
use Rattle.published.specs.Fixings.{Fixing}
use Rattle.published.specs.TwoQAmong.{nearest, none, off_ain, off_am, with, reclaim_among, access_among, came_to}
use Rattle.published.proofs.Follows.{Fixes}
use Rattle.published.proofs.Rooms.{SomeFree, chosen-one}

pub right : (m : Model) (l : List ℕ) (t : ℕ) → Chosen (resident m) l (chosen m l)
right m l t = chosen-right m l

later : (x r : ℕ) (xs : List ℕ) → member r xs ≡ true → member r (x ∷ xs) ≡ true
later x r xs h = by_bool (eqb x r) (λ e. rw e) (λ e. rw e h)

itself : (x : ℕ) (xs : List ℕ) → member x (x ∷ xs) ≡ true
itself x xs = ap (λ (b : Bool). cond b true (member x xs)) (eq-eqb x x refl)

-- which page is nearest the tail hangs on the pages of the queue alone
pub nearest-same : (l : List ℕ) (free : ℕ → Bool) (xs : List ℕ) → ((r : ℕ) → member r xs ≡ true → member r l ≡ free r) → nearest_tail l xs ≡ nearest free xs
nearest-same l free [] h = refl
nearest-same l free (x ∷ xs) h =
    let here = h x (itself x xs) in
    let rest = nearest-same l free xs (λ r k. h r (later x r xs k)) in
    λ i. option_or (rest i) (cond (here i) (Some x) None)

nearest-member : (free : ℕ → Bool) (xs : List ℕ) (y : ℕ) → nearest free xs ≡ Some y → member y xs ≡ true
nearest-member free [] y e = let z : ◌≡◌ {A = ℕ} 0 1 = cc in absurd (omega arith)
nearest-member free (x ∷ xs) y e = step (nearest free xs) (free x) refl e (nearest-member free xs y)
  where
    step : (o : Option ℕ) (b : Bool) → nearest free xs ≡ o → option_or o (cond b (Some x) None) ≡ Some y → (nearest free xs ≡ Some y → member y xs ≡ true) → member y (x ∷ xs) ≡ true
    step (Some z) b u k f = later x y xs (f (u ∙ k))
    step None true u k f = let s : x ≡ y = cc in subst (λ (z : ℕ). member z (x ∷ xs) ≡ true) s (itself x xs)
    step None false u k f = let z : ◌≡◌ {A = ℕ} 0 1 = cc in absurd (omega arith)

module _ (slots : ℕ) (q : Queues) (listed : List ℕ) (free : ℕ → Bool) (s : Sound (of_queues slots q)) (exact : (r : ℕ) → member r listed ≡ cond (resident (of_queues slots q) r) (free r) false) where
  abbrev m : Model
  m = of_queues slots q

  am_near : nearest_tail listed q.am ≡ nearest free q.am
  am_near = nearest-same listed free q.am (λ r h. exact r ∙ ap (λ (b : Bool). cond (cond b true (member r q.ain)) (free r) false) h)

  ain-near : nearest_tail listed q.ain ≡ nearest free q.ain
  ain-near = nearest-same listed free q.ain (λ r h. exact r ∙ ap (λ (b : Bool). cond b (free r) false) (either (member r q.am) (member r q.ain) h))
    where
      either : (a b : Bool) → b ≡ true → cond a true b ≡ true
      either true b e = refl
      either false b e = e

  from_ain : (y : ℕ) → nearest free q.ain ≡ Some y → Same slots m (Some y) (off_ain slots q y)
  from_ain y e =
      let c = member-counted y q.ain (nearest-member free q.ain y e) in
      let o = s.once y in
      let away : member y q.am ≡ false = not_counted y q.am (omega arith) in
      record { out = refl; lists = gone-a1in m y away ∙ models refl refl (take-cut (Kout slots) (y ∷ q.aout) (let z = s.short in omega arith)) }

  from_am : (y : ℕ) → nearest free q.am ≡ Some y → Same slots m (Some y) (off_am q y)
  from_am y e = record { out = refl; lists = gone_am m y (nearest-member free q.am y e) }

  ain-first : (o u : Option ℕ) → nearest free q.ain ≡ o → nearest free q.am ≡ u → Same slots m (option_or o u) (with o (off_ain slots q) (with u (off_am q) (none q)))
  ain-first (Some y) u e f = from_ain y e
  ain-first None (Some y) e f = from_am y f
  ain-first None None e f = record { out = refl; lists = refl }

  am_first : (o u : Option ℕ) → nearest free q.am ≡ o → nearest free q.ain ≡ u → Same slots m (option_or o u) (with o (off_am q) (with u (off_ain slots q) (none q)))
  am_first (Some y) u e f = from_am y e
  am_first None (Some y) e f = from_ain y f
  am_first None None e f = record { out = refl; lists = refl }

  abbrev prefer_ain : Reclaimed
  prefer_ain = with (nearest free q.ain) (off_ain slots q) (with (nearest free q.am) (off_am q) (none q))

  abbrev prefer_am : Reclaimed
  prefer_am = with (nearest free q.am) (off_am q) (with (nearest free q.ain) (off_ain slots q) (none q))

  by_tests : (room more : Bool) →
      Same slots m (cond room None (cond more (option_or (nearest_tail listed q.ain) (nearest_tail listed q.am)) (option_or (nearest_tail listed q.am) (nearest_tail listed q.ain))))
      (cond room (none q) (cond more prefer_ain prefer_am))
  by_tests true more = record { out = refl; lists = refl }
  by_tests false true = subst (λ (o : Option ℕ). Same slots m o prefer_ain) (λ i. option_or (sym ain-near i) (sym am_near i)) (ain-first (nearest free q.ain) (nearest free q.am) refl refl)
  by_tests false false = subst (λ (o : Option ℕ). Same slots m o prefer_am) (λ i. option_or (sym am_near i) (sym ain-near i)) (am_first (nearest free q.am) (nearest free q.ain) refl refl)

  reclaims : Same slots m (cond (ltb (size m) slots) None (chosen m listed)) (reclaim_among slots free q)
  reclaims = by_tests (ltb (size m) slots) (ltb (Kin slots) (length q.ain))

-- the model after an outcome
abbrev pub model_after : Model → ℕ → Outcome → Model
model_after m x Hit = touched m x
model_after m x (Fetch out) = admitted m x out

after_is : (c : Course Model) (x t : ℕ) (o : Outcome) → (after two_q c x t o).model ≡ model_after c.model x o
after_is c x t Hit = refl
after_is c x t (Fetch out) = refl

-- a model and an outcome are what an access came to
pub record Came (slots : ℕ) (m' : Model) (o : Outcome) (a : Accessed) : Type 0 where
  pub lists : m' ≡ of_queues slots a.queues
  pub outcome : o ≡ came_to a
  pub left : left_by (came_to a) ≡ put a.out []
  pub sound : Sound m'

module _ (slots : ℕ) (q : Queues) (f : Fixing) (t : ℕ) (listed : List ℕ) (s : Sound (of_queues slots q)) (exact : (r : ℕ) → member r listed ≡ cond (resident (of_queues slots q) r) (f.free r) false) (some : SomeFree slots (resident (of_queues slots q)) f) where
  abbrev n : Model
  n = of_queues slots q

  abbrev x : ℕ
  x = f.page

  abbrev out : Option ℕ
  out = cond (ltb (size n) slots) None (chosen n listed)

  leaves-chosen : resident n x ≡ false → slots ≤ size n → Leaves (resident n) (size n) n.bound (chosen n listed)
  leaves-chosen away full =
      let y = chosen-one (resident n) f.free listed (chosen n listed) exact (some away (size n) (kept-sound n s).counted full) (chosen-right n listed) in
      subst (Leaves (resident n) (size n) n.bound) (sym y.1) y.2

  leaves_by : resident n x ≡ false → Leaves (resident n) (size n) n.bound out
  leaves_by away =
      by_bool (ltb (size n) slots)
      (λ e. subst (Leaves (resident n) (size n) n.bound) (sym (ap (λ (b : Bool). cond b None (chosen n listed)) e)) (ltb-true (size n) slots e))
      (λ e. subst (Leaves (resident n) (size n) n.bound) (sym (ap (λ (b : Bool). cond b None (chosen n listed)) e)) (leaves-chosen away (ltb-false (size n) slots e)))

  did-hit : (q' : Queues) → touched n x ≡ of_queues slots q' → Came slots (touched n x) Hit (found q')
  did-hit q' e = record { lists = e; outcome = refl; left = refl; sound = touched-sound n x s }

  did-fetch : (a : Accessed) → resident n x ≡ false → admitted n x out ≡ of_queues slots a.queues → Fetch out ≡ came_to a → left_by (came_to a) ≡ put a.out [] → Came slots (admitted n x out) (Fetch out) a
  did-fetch a away e o w = record { lists = e; outcome = o; left = w; sound = admitted-sound n x out s away (leaves_by away) }

  -- the queues with X taken out of Aout
  abbrev without_x : Queues
  without_x = record { am = q.am; ain = q.ain; aout = less x q.aout }

  room : Same slots (forgotten n x) out (reclaim_among slots f.free without_x)
  room = reclaims slots without_x listed f.free (forgotten-sound n x s) exact

  known : member x q.aout ≡ true → resident n x ≡ false → Came slots (admitted n x out) (Fetch out) (onto_am x (reclaim_among slots f.free without_x))
  known k away =
      did-fetch _ away
      (ap (λ (b : Bool). come (gone (forgotten n x) out) b x) k ∙ ap (λ (v : Model). come v true x) room.lists)
      (ap Fetch room.out)
      (left-fetch _)

  new : member x q.aout ≡ false → resident n x ≡ false → Came slots (admitted n x out) (Fetch out) (onto_ain x (reclaim_among slots f.free q))
  new k away =
      let same : without_x ≡ q = λ i. record { am = q.am; ain = q.ain; aout = sym (none-less x q.aout k) i } in
      did-fetch _ away
      (ap (λ (b : Bool). come (gone (forgotten n x) out) b x) k ∙ ap (λ (v : Model). come v false x) room.lists ∙ ap (λ (w : Queues). of_queues slots (onto_ain x (reclaim_among slots f.free w)).queues) same)
      (ap Fetch (room.out ∙ ap (λ (w : Queues). (reclaim_among slots f.free w).out) same))
      (left-fetch _)

  by : (o o' : Outcome) (a a' : Accessed) → o ≡ o' → a ≡ a' → Came slots (model_after n x o') o' a' → Came slots (model_after n x o) o a
  by o o' a a' eo ea d = subst (λ (u : Outcome). Came slots (model_after n x u) u a) (sym eo) (subst (λ (b : Accessed). Came slots (model_after n x o') o' b) (sym ea) d)

  is_hit : resident n x ≡ true → outcome_of two_q n listed x t ≡ Hit
  is_hit e = ap (λ (b : Bool). cond b Hit (Fetch out)) e

  is_fetch : resident n x ≡ false → outcome_of two_q n listed x t ≡ Fetch out
  is_fetch e = ap (λ (b : Bool). cond b Hit (Fetch out)) e

  accesses : Came slots (model_after n x (outcome_of two_q n listed x t)) (outcome_of two_q n listed x t) (access_among slots q f)
  accesses =
      by_bool (member x q.am)
      (λ a. by _ Hit _ _ (is_hit (rw a)) (rw a) (did-hit (record { am = x ∷ less x q.am; ain = q.ain; aout = q.aout }) (models (ap (λ (b : Bool). cond b (x ∷ less x q.am) q.am) a) refl refl)))
      (λ a. by_bool (member x q.ain)
      (λ i. let c = member-counted x q.ain i in
      let o = s.once x in
      let w : member x q.aout ≡ false = not_counted x q.aout (omega arith) in
      by _ Hit _ (found q) (is_hit (rw a i)) (rw (a, w, i)) (did-hit q (models (sym (none-moved x q.am a)) refl refl)))
      (λ i. let away : resident n x ≡ false = rw a i in
      by_bool (member x q.aout)
      (λ k. by _ (Fetch out) _ (onto_am x (reclaim_among slots f.free without_x)) (is_fetch away) (rw (a, k)) (known k away))
      (λ k. by _ (Fetch out) _ (onto_ain x (reclaim_among slots f.free q)) (is_fetch away) (rw (a, k, i)) (new k away))))

-- the same of a fix of a pool
pub fix-came : (slots : ℕ) (q : Queues) (c d : Course Model) (f : Fixing) (t : ℕ) (o : Outcome) → c.model ≡ of_queues slots q → Sound c.model → Fixes two_q right slots c f t o d → Came slots d.model o (access_among slots q f)
fix-came slots q c d f t o e s h =
    let n = of_queues slots q in
    let l = h.turn.listed in
    let exact = subst (λ (v : Model). (r : ℕ) → member r l ≡ cond (resident v r) (f.free r) false) e h.turn.exact in
    let some = subst (λ (v : Model). SomeFree slots (resident v) f) e h.some in
    let came = accesses slots q f t l (subst Sound e s) exact some in
    let out : o ≡ outcome_of two_q n l f.page t = h.turn.outcome ∙ ap (λ (v : Model). outcome_of two_q v l f.page t) e in
    let model : d.model ≡ model_after n f.page o = ap (λ (v : Course Model). v.model) h.turn.course ∙ after_is c f.page t o ∙ ap (λ (v : Model). model_after v f.page o) e in
    subst (λ (v : Model). Came slots v o (access_among slots q f)) (sym model)
    (subst (λ (u : Outcome). Came slots (model_after n f.page u) u (access_among slots q f)) (sym out) came)
