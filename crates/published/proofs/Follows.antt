-- A life as the turns of its accepted fixes.
use Rattle.std.proofs.Common.{◌≡◌, ℕ, ◌+◌, ◌<◌, Bool, true, false, cond, eqb, ltb, List, [], ◌∷◌, ◌++◌, Some, None, Option, sym, refl, ap, ◌∙◌, subst, ⊎_elim, arith, eqb-true, MatchOption}
use Rattle.std.proofs.lemmas.Bool.{false≢true}
use Rattle.page.specs.declared.refusal.Refusal.{Refusal}
use Rattle.policy.specs.Sets.{member, Chosen}
use Rattle.policy.specs.declared.outcome.Outcome.{Outcome}
use Rattle.policy.specs.declared.outcome.Outcome.TheVariants.{Hit, Fetch}
use Rattle.policy.specs.declared.policy.Policy as policy
use Rattle.recency.proofs.Pages.{by_bool}
use Rattle.device.specs.Row.{Row}
use Rattle.book.specs.Book.{Book, opened, grants, held, refusal, next}
use Rattle.book.specs.Call.{Call, Answer}
use Rattle.book.specs.Call.Call.{Fix, Read, Write, Unfix, Flush, FlushAll, Close}
use Rattle.book.specs.declared.grant.Kind.{Kind}
use Rattle.book.proofs.Asked.{fixed}
use Rattle.turns.specs.Turns.{Course, free, named, unless, fixed_page, resident_after, Turn, Fixed, Turned}
use Rattle.turns.specs.Lived.{Scene, Lived}
use Rattle.turns.specs.Lived.Lived.{start as born, doing}
use Rattle.published.specs.Fixings.{Fixing, fixing, fixings}
use Rattle.published.proofs.Books.{clock-stays, clock_ticks, grants_fall, grants-others, size-stays, bound-stays}
use Rattle.published.proofs.Rooms.{free_one, SomeFree}

-- a page with a grant out is not free
not_free : (b : Book) (q : ℕ) → free b q ≡ true → 0 < grants b q → ⊥
not_free b q e h = let z = eqb-true (grants b q) 0 e in omega arith

module _ {P : Type 0} (g : policy.Ghosts P) (right : (m : g.Model) (listed : List ℕ) (t : ℕ) → Chosen (g.resident m) listed (g.chosen m listed t)) where
  -- an accepted fix: its turn, and that a page is found free where one has to leave
  pub record Fixes (bound : ℕ) (x : Course g.Model) (f : Fixing) (t : ℕ) (o : Outcome) (y : Course g.Model) : Type 0 where
    pub turn : Turn g f.free x f.page t o y
    pub some : SomeFree bound (g.resident x.model) f

  -- accepted fixes one after another, the first at the time n + 1
  pub data Follows (bound : ℕ) : ℕ → Course g.Model → List Fixing → List Outcome → Course g.Model → Type 0 where
    start : {n : ℕ} {x : Course g.Model} → Follows bound n x [] [] x
    fix : {n : ℕ} {x y z : Course g.Model} {f : Fixing} {fs : List Fixing} {o : Outcome} {os : List Outcome} →
        Fixes bound x f (n + 1) o y → Follows bound (n + 1) y fs os z → Follows bound n x (f ∷ fs) (o ∷ os) z

  -- the book beside the policy: a page with a grant out is on the device, and resident
  pub record Beside (bound n : ℕ) (b : Book) (m : g.Model) : Type 0 where
    pub frames : b.bound ≡ bound
    pub clock : b.clock ≡ n
    pub within : (q : ℕ) → 0 < grants b q → q < b.size
    pub resident : (q : ℕ) → 0 < grants b q → g.resident m q ≡ true

  pub beside-opened : (size bound mark : ℕ) (row : Row) (m : g.Model) → Beside bound 0 (opened size bound mark row) m
  beside-opened size bound mark row m = record { frames = refl; clock = refl; within = λ q h. absurd (omega arith); resident = λ q h. absurd (omega arith) }

  -- a call that fixes no page
  beside-still : (bound n : ℕ) (b : Book) (m : g.Model) (call : Call) → fixed_page b call ≡ None → Beside bound n b m → Beside bound n (next b call) m
  beside-still bound n b m call e s = record {
    frames = bound-stays b call ∙ s.frames;
    clock = clock-stays b call e ∙ s.clock;
    within = λ q h. (let l = grants_fall b call q e in let w = s.within q (omega arith) in let k = size-stays b call in omega arith);
    resident = λ q h. (let l = grants_fall b call q e in s.resident q (omega arith));
  }

  -- an accepted fix
  module _ (bound n : ℕ) (b : Book) (x x' : Course g.Model) (kind : Kind) (page : ℕ) (o : Outcome) (s : Beside bound n b x.model) (e : refusal b (Fix kind page) ≡ None) (t : Turn g (free b) x page (b.clock + 1) o x') where
    abbrev m : g.Model
    m = x.model

    abbrev chosen : Option ℕ
    chosen = g.chosen m t.listed (b.clock + 1)

    fixes-one : Fixes bound x (record { page = page; free = free b }) (n + 1) o x'
    fixes-one = record {
      turn = subst (λ (k : ℕ). Turn g (free b) x page (k + 1) o x') s.clock t;
      some = λ away k c l. free_one b (g.resident m) k s.within c (let r = room away in let f = s.frames in omega arith);
    }
      where
        room : g.resident m page ≡ false → held b < b.bound
        room away = ⊎_elim (λ h. absurd (false≢true (sym away ∙ s.resident page h))) (λ h. h) (fixed b kind page e).frame

    abbrev leaving : Option ℕ
    leaving = cond (ltb (g.size m) (g.bound m)) None chosen

    came : (v : Bool) → g.resident m page ≡ v → o ≡ cond v Hit (Fetch leaving)
    came v r = t.outcome ∙ ap (λ (u : Bool). cond u Hit (Fetch leaving)) r

    leaving_is : (v : Bool) → ltb (g.size m) (g.bound m) ≡ v → leaving ≡ cond v None chosen
    leaving_is v k = ap (λ (u : Bool). cond u None chosen) k

    -- the page that leaves was free
    left-free : (gone : ℕ) → o ≡ Fetch (Some gone) → free b gone ≡ true
    left-free gone h =
        by_bool (g.resident m page)
        (λ r. let y = came true r in let w : ◌≡◌ {A = ℕ} 0 1 = cc in absurd (omega arith))
        (λ r. let y = came false r in
        let l : leaving ≡ Some gone = cc in
        by_bool (ltb (g.size m) (g.bound m))
        (λ k. let i = leaving_is true k in let w : ◌≡◌ {A = ℕ} 0 1 = cc in absurd (omega arith))
        (λ k. let c : chosen ≡ Some gone = sym (leaving_is false k) ∙ l in
        let y : Chosen (g.resident m) t.listed (Some gone) = subst (λ (u : Option ℕ). Chosen (g.resident m) t.listed u) c (right m t.listed (b.clock + 1)) in
        listed_free gone y.0))
      where
        listed_free : (q : ℕ) → member q t.listed ≡ true → free b q ≡ true
        listed_free q h = both (g.resident m q) (free b q) (sym (t.exact q) ∙ h)
          where
            both : (u v : Bool) → cond u v false ≡ true → v ≡ true
            both true v k = k
            both false v k = absurd (false≢true k)

    -- a page that was resident and has a grant out stays, and the page fixed is resident
    stays : (q : ℕ) → (eqb q page ≡ false → 0 < grants b q) → g.resident x'.model q ≡ true
    stays q h = t.resident q ∙ go o refl (eqb q page) refl
      where
        held : eqb q page ≡ false → g.resident m q ≡ true
        held k = s.resident q (h k)

        go : (u : Outcome) → o ≡ u → (v : Bool) → eqb q page ≡ v → resident_after (g.resident m) page u q ≡ true
        go Hit a true k =
            by_bool (g.resident m page)
            (λ r. ap (g.resident m) (eqb-true q page k) ∙ r)
            (λ r. let y = came false r in let w : ◌≡◌ {A = ℕ} 0 1 = cc in absurd (omega arith))
        go Hit a false k = held k
        go (Fetch None) a true k = ap (λ (v : Bool). cond v true (g.resident m q)) k
        go (Fetch None) a false k = ap (λ (v : Bool). cond v true (g.resident m q)) k ∙ held k
        go (Fetch (Some gone)) a true k = ap (λ (v : Bool). cond v true (cond (eqb q gone) false (g.resident m q))) k
        go (Fetch (Some gone)) a false k =
            ap (λ (v : Bool). cond v true (cond (eqb q gone) false (g.resident m q))) k
            ∙ by_bool (eqb q gone)
            (λ i. absurd (not_free b q (ap (free b) (eqb-true q gone i) ∙ left-free gone a) (h k)))
            (λ i. ap (λ (v : Bool). cond v false (g.resident m q)) i ∙ held k)

    beside-fix : Beside bound (n + 1) (next b (Fix kind page)) x'.model
    beside-fix = record {
      frames = bound-stays b (Fix kind page) ∙ s.frames;
      clock = clock_ticks b kind page e ∙ ap (λ (k : ℕ). k + 1) s.clock;
      within = λ q h. (let k = size-stays b (Fix kind page) in let w = inside q h in omega arith);
      resident = λ q h. stays q (λ k. let l = grants-others b kind page q k in omega arith);
    }
      where
        inside : (q : ℕ) → 0 < grants (next b (Fix kind page)) q → q < b.size
        inside q h =
            by_bool (eqb q page)
            (λ k. let z = eqb-true q page k in let w = (fixed b kind page e).there in omega arith)
            (λ k. let l = grants-others b kind page q k in s.within q (omega arith))

  -- one call, and what follows it
  module _ (bound n : ℕ) (b : Book) (x x' z : Course g.Model) (os later : List Outcome) (fs : List Fixing) (s : Beside bound n b x.model) where
    abbrev Then : Call → Type 0
    Then call = (k : ℕ) → Beside bound k (next b call) x'.model → Follows bound k x' fs later z

    still : (call : Call) → fixed_page b call ≡ None → (x' ≡ x) × (os ≡ []) → Then call → Follows bound n x fs (os ++ later) z
    still call e h then =
        let f = then n (subst (λ (y : Course g.Model). Beside bound n (next b call) y.model) (sym h.0) (beside-still bound n b x.model call e s)) in
        subst (λ (l : List Outcome). Follows bound n x fs (l ++ later) z) (sym h.1) (subst (λ (y : Course g.Model). Follows bound n y fs later z) h.0 f)

    by_fix : (kind : Kind) (page : ℕ) → refusal b (Fix kind page) ≡ None → Fixed g b x os x' page → Then (Fix kind page) → Follows bound n x (record { page = page; free = free b } ∷ fs) (os ++ later) z
    by_fix kind page e h then =
        let o = h.outcome in
        subst (λ (l : List Outcome). Follows bound n x (record { page = page; free = free b } ∷ fs) (l ++ later) z) (sym h.only)
        (fix (fixes-one bound n b x x' kind page o s e h.turn) (then (n + 1) (beside-fix bound n b x x' kind page o s e h.turn)))

    accepting : (call : Call) → refusal b call ≡ None → fixed_page b call ≡ named call → MatchOption (named call) ((x' ≡ x) × (os ≡ [])) (Fixed g b x os x') → Then call → Follows bound n x (fixing (free b) (named call) fs) (os ++ later) z
    accepting (Fix kind page) e f h then = by_fix kind page e h then
    accepting (Read k offset len) e f h then = still (Read k offset len) f h then
    accepting (Write mark page offset bytes) e f h then = still (Write mark page offset bytes) f h then
    accepting (Unfix k) e f h then = still (Unfix k) f h then
    accepting (Flush page) e f h then = still (Flush page) f h then
    accepting FlushAll e f h then = still FlushAll f h then
    accepting Close e f h then = still Close f h then

    one_call : (call : Call) → Turned g b x call os x' → Then call → Follows bound n x (fixing (free b) (fixed_page b call) fs) (os ++ later) z
    one_call call h then = go (refusal b call) refl h
      where
        go : (o : Option Refusal) → refusal b call ≡ o → MatchOption (unless o (named call)) ((x' ≡ x) × (os ≡ [])) (Fixed g b x os x') → Follows bound n x (fixing (free b) (unless o (named call)) fs) (os ++ later) z
        go None e h = accepting call e (ap (λ (o : Option Refusal). unless o (named call)) e) h then
        go (Some r) e h = still call (ap (λ (o : Option Refusal). unless o (named call)) e) h then

  pub follows : {c d : Scene g.Model} {calls : List Call} {rs : List Answer} {os : List Outcome} → (bound n : ℕ) → Beside bound n c.sight.book c.course.model → Lived g c calls rs os d → Follows bound n c.course (fixings c.sight.book calls) os d.course
  follows bound n s born = start
  follows {c} {d = e} bound n s (doing {d = d} {call = call} {os = os} {calls = calls} {later = later} w l) =
      let b = c.sight.book in
      one_call bound n b c.course d.course e.course os later (fixings (next b call) calls) s call w.turned
      (λ k h. subst (λ (v : Book). Follows bound k d.course (fixings v calls) later e.course) w.step.after
      (follows bound k (subst (λ (v : Book). Beside bound k v d.course.model) (sym w.step.after) h) l))
