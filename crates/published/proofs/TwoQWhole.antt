-- A pool under 2Q does what 2Q does.
use Rattle.std.proofs.Common.{◌≡◌, ℕ, ◌+◌, ◌≤◌, cond, List, [], ◌∷◌, ◌++◌, sym, refl, ap, ◌∙◌, subst, append_assoc, arith}
use Rattle.std.proofs.lemmas.List.{append-nil}
use Rattle.policy.specs.Runs.{hit_by, hits, fetches, left_by, left}
use Rattle.policy.specs.declared.outcome.Outcome.{Outcome}
use Rattle.policy.proofs.Tallies.{hit_of, fetch_of}
use Rattle.two_q.specs.AsPrinted.{of_queues}
use Rattle.two_q.specs.Model.{Model, size, empty as no_page}
use Rattle.two_q.specs.Of.{two_q}
use Rattle.two_q.specs.Printed.{put, Run, tallied, empty, printed_run}
use Rattle.two_q.proofs.Sounds.{Sound, empty-sound}
use Rattle.book.specs.Book.{Book}
use Rattle.book.specs.Call.{Call, Answer}
use Rattle.turns.specs.Turns.{Course}
use Rattle.turns.specs.Lived.{Scene, Lived}
use Rattle.turns.proofs.Living.{lived_laws}
use Rattle.published.specs.Fixings.{Fixing, fixings, AtOnce}
use Rattle.published.specs.Published.{Opening, TwoQRan, PublishedTwoQ}
use Rattle.published.specs.TwoQAmong.{access_among, run_among, published_run, outcomes, published_outcomes, printed_outcomes}
use Rattle.published.proofs.AtOnces.{Idle, at_once_lem}
use Rattle.published.proofs.Follows.{Follows, Beside, beside-opened, follows}
use Rattle.published.proofs.Follows.Follows.{start, fix}
use Rattle.published.proofs.TwoQAll.{run-all, outcomes-all}
use Rattle.published.proofs.TwoQSteps.{right, fix-came}

-- what accepted fixes do, from where a run stands
pub record Ran (slots : ℕ) (r : Run) (fs : List Fixing) (os : List Outcome) (y : Course Model) : Type 0 where
  pub lists : y.model ≡ of_queues slots (run_among slots r fs).queues
  pub sound : Sound y.model
  pub came : os ≡ outcomes (access_among slots) r.queues fs
  pub left : (run_among slots r fs).left ≡ r.left ++ left os
  pub hits : (run_among slots r fs).hits ≡ r.hits + hits os
  pub fetches : (run_among slots r fs).fetches ≡ r.fetches + fetches os

ran : (slots : ℕ) {n : ℕ} {x y : Course Model} {fs : List Fixing} {os : List Outcome} (r : Run) → x.model ≡ of_queues slots r.queues → Sound x.model → Follows two_q right slots n x fs os y → Ran slots r fs os y
ran slots r e s start = record { lists = e; sound = s; came = refl; left = sym (append-nil r.left); hits = omega arith; fetches = omega arith }
ran slots r e s (fix {n = n} {x = x} {y = y} {f = f} {fs = fs} {o = o} {os = os} h l) =
    let a = access_among slots r.queues f in
    let c = fix-came slots r.queues x y f (n + 1) o e s h in
    let w = ran slots (tallied r a) c.lists c.sound l in
    let oe = c.outcome in
    record {
      lists = w.lists;
      sound = w.sound;
      came = λ i. oe i ∷ w.came i;
      left = w.left ∙ append_assoc r.left (put a.out []) (left os) ∙ ap (λ (p : List ℕ). r.left ++ (p ++ left os)) (sym (ap left_by oe ∙ c.left));
      hits = (let k = w.hits in let z : cond (hit_by o) 1 0 ≡ cond a.fetched 0 1 = ap (λ (u : Outcome). cond (hit_by u) 1 0) oe ∙ hit_of a.fetched a.out in omega arith);
      fetches = (let k = w.fetches in let z : cond (hit_by o) 0 1 ≡ cond a.fetched 1 0 = ap (λ (u : Outcome). cond (hit_by u) 0 1) oe ∙ fetch_of a.fetched a.out in omega arith);
    }

abbrev nothing : Run
nothing = record { queues = empty; left = []; hits = 0; fetches = 0 }

module _ (bound : ℕ) (c d : Scene Model) (calls : List Call) (rs : List Answer) (os : List Outcome) (o : Opening 0 bound (no_page bound) c) (l : Lived two_q c calls rs os d) where
  abbrev b : Book
  b = c.sight.book

  whole : Ran bound nothing (fixings b calls) os d.course
  whole =
      let m : c.course.model ≡ no_page bound = ap (λ (x : Course Model). x.model) o.course in
      let s = subst Sound (sym m) (empty-sound bound o.frames.0 o.frames.1) in
      let k = subst (λ (v : Book). Beside two_q right bound 0 v c.course.model) (sym o.book) (beside-opened two_q right o.size bound o.mark o.row c.course.model) in
      ran bound nothing m s (follows two_q right bound 0 k l)

  within : size d.course.model ≤ bound
  within =
      let w = whole in
      subst (λ (k : ℕ). size d.course.model ≤ k) (ap (λ (v : Model). v.bound) w.lists) w.sound.few

  among : TwoQRan bound d.course os (published_run bound (fixings b calls)) (published_outcomes bound (fixings b calls))
  among =
      let w = whole in
      let h = (lived_laws two_q).hits c d calls rs os l in
      let f = (lived_laws two_q).fetches c d calls rs os l in
      let hs : c.course.hits ≡ 0 = ap (λ (x : Course Model). x.hits) o.course in
      let fs : c.course.fetches ≡ 0 = ap (λ (x : Course Model). x.fetches) o.course in
      record {
        lists = w.lists;
        outcomes = w.came;
        left = sym w.left;
        hits = (let k = w.hits in omega arith);
        fetches = (let k = w.fetches in omega arith);
      }

  at_once_ran : (string : List ℕ) → AtOnce b calls string → TwoQRan bound d.course os (printed_run bound string) (printed_outcomes bound string)
  at_once_ran string a =
      let idle : Idle b = subst Idle (sym o.book) (λ q. refl) in
      let f = at_once_lem idle a in
      let s = empty-sound bound o.frames.0 o.frames.1 in
      let r : published_run bound (fixings b calls) ≡ printed_run bound string = ap (published_run bound) f ∙ run-all bound nothing string s in
      let u : published_outcomes bound (fixings b calls) ≡ printed_outcomes bound string = ap (published_outcomes bound) f ∙ outcomes-all bound empty string s in
      subst (λ (v : Run). TwoQRan bound d.course os v (printed_outcomes bound string)) r
      (subst (λ (v : List Outcome). TwoQRan bound d.course os (published_run bound (fixings b calls)) v) u among)

pub two_q_published : PublishedTwoQ 0
two_q_published = record { among = among; within = within; at_once = at_once_ran }
