-- A pool under LRU-2 does what LRU-2 does.
use Rattle.std.proofs.Common.{◌≡◌, ℕ, ◌+◌, ◌≤◌, cond, List, [], ◌∷◌, ◌++◌, map, length, sym, refl, ap, ◌∙◌, subst, append_assoc, arith}
use Rattle.std.proofs.lemmas.List.{append-nil, length-map}
use Rattle.policy.specs.Frames.{InRange}
use Rattle.policy.specs.Runs.{hit_by, hits, fetches, left_by, left}
use Rattle.policy.specs.declared.outcome.Outcome.{Outcome}
use Rattle.policy.proofs.Tallies.{hit_of, fetch_of}
use Rattle.lru_two.specs.AsPrinted.{block_of, of_state}
use Rattle.lru_two.specs.Model.{Model, size, empty}
use Rattle.lru_two.specs.Of.{lru_two}
use Rattle.lru_two.specs.Printed.{State, listed, reference, Run, tallied, run_from, nothing, printed_run}
use Rattle.lru_two.proofs.Sounds.{Sound, nothing-sound}
use Rattle.book.specs.Book.{Book}
use Rattle.book.specs.Call.{Call, Answer}
use Rattle.turns.specs.Turns.{Course}
use Rattle.turns.specs.Lived.{Scene, Lived}
use Rattle.turns.proofs.Living.{lived_laws}
use Rattle.published.specs.Fixings.{Fixing, fixings, AtOnce}
use Rattle.published.specs.LruTwoAmong.{reference_among, run_among, published_run, came_to, outcomes, published_outcomes, printed_outcomes}
use Rattle.published.specs.Published.{Opening, LruTwoRan, PublishedLruTwo}
use Rattle.published.proofs.AtOnces.{unheld, Idle, at_once_lem}
use Rattle.published.proofs.Follows.{Follows, Beside, beside-opened, follows}
use Rattle.published.proofs.Follows.Follows.{start, fix}
use Rattle.published.proofs.LruTwoSteps.{right, fix-came}

-- what accepted fixes do, from where a run stands, the first at the time n + 1
pub record Ran (frames crp n : ℕ) (r : Run) (fs : List Fixing) (os : List Outcome) (y : Course Model) : Type 0 where
  pub blocks : y.model ≡ of_state frames crp (run_among frames crp (n + 1) r fs).state
  pub few : length (run_among frames crp (n + 1) r fs).state.buffer ≤ frames
  pub came : os ≡ outcomes (reference_among frames crp) (n + 1) r.state fs
  pub left : (run_among frames crp (n + 1) r fs).left ≡ r.left ++ left os
  pub hits : (run_among frames crp (n + 1) r fs).hits ≡ r.hits + hits os
  pub fetches : (run_among frames crp (n + 1) r fs).fetches ≡ r.fetches + fetches os

ran : (frames crp : ℕ) (range : InRange frames) {n : ℕ} {x y : Course Model} {fs : List Fixing} {os : List Outcome} (r : Run) → x.model ≡ of_state frames crp r.state → Sound frames n r.state → Follows lru_two right frames n x fs os y → Ran frames crp n r fs os y
ran frames crp range r e s start = record { blocks = e; few = s.few; came = refl; left = sym (append-nil r.left); hits = omega arith; fetches = omega arith }
ran frames crp range r e s (fix {n = n} {x = x} {y = y} {f = f} {fs = fs} {o = o} {os = os} h l) =
    let a = reference_among frames crp r.state (n + 1) f in
    let c = fix-came frames crp n r.state x y f o range e s h in
    let w = ran frames crp range (tallied r a) c.blocks c.sound l in
    let oe = c.outcome in
    record {
      blocks = w.blocks;
      few = w.few;
      came = λ i. oe i ∷ w.came i;
      left = w.left ∙ append_assoc r.left (listed a.out) (left os) ∙ ap (λ (p : List ℕ). r.left ++ (p ++ left os)) (sym (ap left_by oe ∙ c.left));
      hits = (let k = w.hits in let z : cond (hit_by o) 1 0 ≡ cond a.fetched 0 1 = ap (λ (u : Outcome). cond (hit_by u) 1 0) oe ∙ hit_of a.fetched a.out in omega arith);
      fetches = (let k = w.fetches in let z : cond (hit_by o) 0 1 ≡ cond a.fetched 1 0 = ap (λ (u : Outcome). cond (hit_by u) 0 1) oe ∙ fetch_of a.fetched a.out in omega arith);
    }

-- where every page is free, LRU-2 among the free pages is LRU-2 as printed
run-all : (frames crp t : ℕ) (r : Run) (xs : List ℕ) → run_among frames crp t r (map unheld xs) ≡ run_from frames crp t r xs
run-all frames crp t r [] = refl
run-all frames crp t r (x ∷ xs) = run-all frames crp (t + 1) (tallied r (reference frames crp r.state t x)) xs

outcomes-all : (frames crp t : ℕ) (s : State) (xs : List ℕ) → outcomes (reference_among frames crp) t s (map unheld xs) ≡ outcomes (reference frames crp) t s xs
outcomes-all frames crp t s [] = refl
outcomes-all frames crp t s (x ∷ xs) = ap (λ (os : List Outcome). came_to (reference frames crp s t x) ∷ os) (outcomes-all frames crp (t + 1) (reference frames crp s t x).state xs)

abbrev none_yet : Run
none_yet = record { state = nothing; left = []; hits = 0; fetches = 0 }

module _ (bound crp : ℕ) (c d : Scene Model) (calls : List Call) (rs : List Answer) (os : List Outcome) (o : Opening 0 bound (empty bound crp) c) (l : Lived lru_two c calls rs os d) where
  abbrev b : Book
  b = c.sight.book

  whole : Ran bound crp 0 none_yet (fixings b calls) os d.course
  whole =
      let m : c.course.model ≡ empty bound crp = ap (λ (x : Course Model). x.model) o.course in
      let k = subst (λ (v : Book). Beside lru_two right bound 0 v c.course.model) (sym o.book) (beside-opened lru_two right o.size bound o.mark o.row c.course.model) in
      ran bound crp o.frames none_yet m (nothing-sound bound) (follows lru_two right bound 0 k l)

  within : size d.course.model ≤ bound
  within =
      let w = whole in
      let s = (published_run bound crp 1 (fixings b calls)).state in
      let k : size d.course.model ≡ length s.buffer = ap size w.blocks ∙ length-map s.buffer (block_of s) in
      let f : length s.buffer ≤ bound = w.few in
      omega arith

  among : LruTwoRan bound crp d.course os (published_run bound crp 1 (fixings b calls)) (published_outcomes bound crp 1 (fixings b calls))
  among =
      let w = whole in
      let h = (lived_laws lru_two).hits c d calls rs os l in
      let f = (lived_laws lru_two).fetches c d calls rs os l in
      let hs : c.course.hits ≡ 0 = ap (λ (x : Course Model). x.hits) o.course in
      let fs : c.course.fetches ≡ 0 = ap (λ (x : Course Model). x.fetches) o.course in
      record {
        blocks = w.blocks;
        outcomes = w.came;
        left = sym w.left;
        hits = (let k = w.hits in omega arith);
        fetches = (let k = w.fetches in omega arith);
      }

  at_once_ran : (string : List ℕ) → AtOnce b calls string → LruTwoRan bound crp d.course os (printed_run bound crp string) (printed_outcomes bound crp string)
  at_once_ran string a =
      let idle : Idle b = subst Idle (sym o.book) (λ q. refl) in
      let f = at_once_lem idle a in
      let r : published_run bound crp 1 (fixings b calls) ≡ printed_run bound crp string = ap (published_run bound crp 1) f ∙ run-all bound crp 1 none_yet string in
      let u : published_outcomes bound crp 1 (fixings b calls) ≡ printed_outcomes bound crp string = ap (published_outcomes bound crp 1) f ∙ outcomes-all bound crp 1 nothing string in
      subst (λ (v : Run). LruTwoRan bound crp d.course os v (printed_outcomes bound crp string)) r
      (subst (λ (v : List Outcome). LruTwoRan bound crp d.course os (published_run bound crp 1 (fixings b calls)) v) u among)

pub lru_two_published : PublishedLruTwo 1
lru_two_published = record { among = among; within = within; at_once = at_once_ran }
