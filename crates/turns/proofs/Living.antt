-- The laws of lives, by the steps of a life.
use Rattle.std.proofs.Common.{◌≡◌, ℕ, ◌+◌, Bool, true, false, cond, List, [], ◌∷◌, ◌++◌, length, Some, None, Option, sym, refl, ap, ◌∙◌, arith, length-append, MatchOption}
use Rattle.page.specs.declared.refusal.Refusal.{Refusal}
use Rattle.policy.specs.Runs.{hits, fetches}
use Rattle.policy.specs.declared.outcome.Outcome.{Outcome}
use Rattle.policy.specs.declared.outcome.Outcome.TheVariants.{Hit, Fetch}
use Rattle.policy.specs.declared.policy.Policy as policy
use Rattle.book.specs.Book.{Book, refusal}
use Rattle.book.specs.declared.grant.Kind.{Kind}
use Rattle.book.specs.Call.{Call, Answer}
use Rattle.book.specs.Call.Call.{Fix, Read, Write, Unfix, Flush, FlushAll, Close}
use Rattle.book.specs.Counts.{is_fix, one, count}
use Rattle.book.specs.Life.{Life}
use Rattle.book.specs.Life.Life.{start as born, step as next-step}
use Rattle.policy.proofs.Tallies.{all-counted}
use Rattle.turns.specs.Turns.{Course, named, unless, after, Fixed, Turned}
use Rattle.turns.specs.Lived.{Scene, Lived, LivedLaws}
use Rattle.turns.specs.Lived.Lived.{start, doing}

hits_append : (xs ys : List Outcome) → hits (xs ++ ys) ≡ hits xs + hits ys
hits_append [] ys = omega arith
hits_append (o ∷ xs) ys = let ih = hits_append xs ys in omega arith

fetches_append : (xs ys : List Outcome) → fetches (xs ++ ys) ≡ fetches xs + fetches ys
fetches_append [] ys = omega arith
fetches_append (o ∷ xs) ys = let ih = fetches_append xs ys in omega arith

module _ {P : Type 0} (g : policy.Ghosts P) where
  after-hits : (x : Course g.Model) (page t : ℕ) (o : Outcome) → (after g x page t o).hits ≡ x.hits + hits (o ∷ [])
  after-hits x page t Hit = refl
  after-hits x page t (Fetch out) = omega arith

  after-fetches : (x : Course g.Model) (page t : ℕ) (o : Outcome) → (after g x page t o).fetches ≡ x.fetches + fetches (o ∷ [])
  after-fetches x page t Hit = omega arith
  after-fetches x page t (Fetch out) = refl

  -- What one call does to the counts, and how many outcomes it has.
  pub record Counted (b : Book) (x : Course g.Model) (call : Call) (os : List Outcome) (x' : Course g.Model) : Type 0 where
    pub outcomes : length os ≡ one (refusal b call) (is_fix call)
    pub hits : x'.hits ≡ x.hits + hits os
    pub fetches : x'.fetches ≡ x.fetches + fetches os

  still : (b : Book) (x x' : Course g.Model) (call : Call) (os : List Outcome) → (x' ≡ x) × (os ≡ []) → one (refusal b call) (is_fix call) ≡ 0 → Counted b x call os x'
  still b x x' call os e z = record {
    outcomes = ap length e.1 ∙ sym z;
    hits = ap (λ (y : Course g.Model). y.hits) e.0 ∙ tail x.hits (hits os) (ap hits e.1);
    fetches = ap (λ (y : Course g.Model). y.fetches) e.0 ∙ tail x.fetches (fetches os) (ap fetches e.1);
  }
    where
      tail : (n m : ℕ) → m ≡ 0 → n ≡ n + m
      tail n m h = omega arith

  refused-one : (o : Option Refusal) (r : Refusal) (t : Bool) → o ≡ Some r → one o t ≡ 0
  refused-one o r t e = ap (λ (x : Option Refusal). one x t) e

  accepted-one : (o : Option Refusal) (t : Bool) → o ≡ None → one o t ≡ cond t 1 0
  accepted-one o t e = ap (λ (x : Option Refusal). one x t) e

  by_fix : (b : Book) (x x' : Course g.Model) (kind : Kind) (page : ℕ) (os : List Outcome) → refusal b (Fix kind page) ≡ None → Fixed g b x os x' page → Counted b x (Fix kind page) os x'
  by_fix b x x' kind page os e h =
      let t = h.turn.course in
      record {
        outcomes = ap length h.only ∙ sym (accepted-one (refusal b (Fix kind page)) true e);
        hits = ap (λ (y : Course g.Model). y.hits) t ∙ after-hits x page (b.clock + 1) h.outcome ∙ ap (λ (l : List Outcome). x.hits + hits l) (sym h.only);
        fetches = ap (λ (y : Course g.Model). y.fetches) t ∙ after-fetches x page (b.clock + 1) h.outcome ∙ ap (λ (l : List Outcome). x.fetches + fetches l) (sym h.only);
      }

  by_other : (b : Book) (x x' : Course g.Model) (call : Call) (os : List Outcome) → refusal b call ≡ None → is_fix call ≡ false → (x' ≡ x) × (os ≡ []) → Counted b x call os x'
  by_other b x x' call os e f h = still b x x' call os h (accepted-one (refusal b call) (is_fix call) e ∙ ap (λ (t : Bool). cond t 1 0) f)

  accepting : (b : Book) (x x' : Course g.Model) (call : Call) (os : List Outcome) → refusal b call ≡ None → MatchOption (named call) ((x' ≡ x) × (os ≡ [])) (Fixed g b x os x') → Counted b x call os x'
  accepting b x x' (Fix kind page) os e h = by_fix b x x' kind page os e h
  accepting b x x' (Read k offset len) os e h = by_other b x x' (Read k offset len) os e refl h
  accepting b x x' (Write mark page offset bytes) os e h = by_other b x x' (Write mark page offset bytes) os e refl h
  accepting b x x' (Unfix k) os e h = by_other b x x' (Unfix k) os e refl h
  accepting b x x' (Flush page) os e h = by_other b x x' (Flush page) os e refl h
  accepting b x x' FlushAll os e h = by_other b x x' FlushAll os e refl h
  accepting b x x' Close os e h = by_other b x x' Close os e refl h

  pub counted : (b : Book) (x x' : Course g.Model) (call : Call) (os : List Outcome) → Turned g b x call os x' → Counted b x call os x'
  counted b x x' call os h = go (refusal b call) refl h
    where
      go : (o : Option Refusal) → refusal b call ≡ o → MatchOption (unless o (named call)) ((x' ≡ x) × (os ≡ [])) (Fixed g b x os x') → Counted b x call os x'
      go None e h = accepting b x x' call os e h
      go (Some r) e h = still b x x' call os h (refused-one (refusal b call) r (is_fix call) e)

  life : {c d : Scene g.Model} {calls : List Call} {rs : List Answer} {os : List Outcome} → Lived g c calls rs os d → Life c.sight calls rs d.sight
  life start = born
  life (doing s l) = next-step s.step (life l)

  outcomes : {c d : Scene g.Model} {calls : List Call} {rs : List Answer} {os : List Outcome} → Lived g c calls rs os d → length os ≡ count is_fix c.sight.book calls
  outcomes start = refl
  outcomes {c} (doing {d = d} {call = call} {os = os} {calls = calls} {later = later} s l) =
      let here = (counted c.sight.book c.course d.course call os s.turned).outcomes in
      let rest = outcomes l ∙ ap (λ (b : Book). count is_fix b calls) s.step.after in
      omega (arith, length-append os later)

  hits_in : {c d : Scene g.Model} {calls : List Call} {rs : List Answer} {os : List Outcome} → Lived g c calls rs os d → d.course.hits ≡ c.course.hits + hits os
  hits_in start = omega arith
  hits_in {c} (doing {d = d} {call = call} {os = os} {later = later} s l) =
      let here = (counted c.sight.book c.course d.course call os s.turned).hits in
      let rest = hits_in l in
      omega (arith, hits_append os later)

  fetches_in : {c d : Scene g.Model} {calls : List Call} {rs : List Answer} {os : List Outcome} → Lived g c calls rs os d → d.course.fetches ≡ c.course.fetches + fetches os
  fetches_in start = omega arith
  fetches_in {c} (doing {d = d} {call = call} {os = os} {later = later} s l) =
      let here = (counted c.sight.book c.course d.course call os s.turned).fetches in
      let rest = fetches_in l in
      omega (arith, fetches_append os later)

  pub lived_laws : LivedLaws g 1
  lived_laws = record {
    life = λ c d calls rs os l. life l;
    outcomes = λ c d calls rs os l. (let h = outcomes l in omega arith);
    hits = λ c d calls rs os l. hits_in l;
    fetches = λ c d calls rs os l. fetches_in l;
    sum = λ c d calls rs os l. (let h = outcomes l in let a = hits_in l in let b = fetches_in l in omega (arith, all-counted os));
  }
