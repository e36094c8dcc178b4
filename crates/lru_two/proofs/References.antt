-- One reference to the policy is one reference of the printed algorithm.
use Rattle.std.proofs.Common.{◌≡◌, ℕ, ◌+◌, ◌/◌, ◌<◌, ◌≤◌, Bool, true, false, cond, eqb, ltb, List, ◌∷◌, map, length, take, Some, None, Option, sym, refl, ap, ◌∙◌, subst, arith}
use Rattle.std.proofs.lemmas.List.{length-map, take-map}
use Rattle.std.proofs.lemmas.Bool.{false≢true, le-ltb, eqb-true}
use Rattle.policy.specs.Runs.{leaving, swapped, Turn, turn, left_by, Standing}
use Rattle.recency.proofs.Pages.{by_bool}
use Rattle.policy.specs.Once.{not_counted}
use Rattle.policy.specs.Sets.{member, distinct, count, Chosen, Kept}
use Rattle.policy.proofs.Admissions.{Leaves, leaves}
use Rattle.policy.proofs.Counts.{member-counted, count_none, count_less_le, count-take, once-distinct}
use Rattle.policy.specs.declared.outcome.Outcome.{Outcome}
use Rattle.policy.specs.declared.outcome.Outcome.TheVariants.{Hit, Fetch}
use Rattle.policy.proofs.Turns.{Leaving, accepted, standing-again}
use Rattle.blocks.specs.declared.block.Block.{Block}
use Rattle.blocks.specs.Blocks.{less, earlier, refreshed}
use Rattle.lru_two.specs.Model as model
use Rattle.lru_two.specs.Model.{Model, resident, size, touched, chosen, forgotten, come, admitted}
use Rattle.lru_two.specs.Of.{lru_two}
use Rattle.lru_two.specs.AsPrinted.{block_of, of_state}
use Rattle.lru_two.specs.Printed as printed
use Rattle.lru_two.specs.Printed.{State, uncorrelated, restarted, updated, dropped, fetched, without, Referred, reference, listed}
use Rattle.lru_two.proofs.Laws.{models, touched-resident, touched-size, admitted-resident, admitted-size}
use Rattle.lru_two.proofs.Picks.{choice, choice-right}
use Rattle.lru_two.proofs.Shown.{pages_of, found_of, earlier_of, less_of, Beside, elsewhere, anew, updated-beside, updated-here, fetched-beside, fetched-here}
use Rattle.lru_two.proofs.Sounds.{Sound, updated-sound, out_of, Drops, fetched-sound}
use Rattle.lru_two.proofs.Victims.{chosen_of}

abbrev pub outcome_of : Referred → Outcome
outcome_of a = cond a.fetched (Fetch a.out) Hit

pub left-fetch : (o : Option ℕ) → left_by (Fetch o) ≡ listed o
left-fetch None = refl
left-fetch (Some x) = refl

-- a turn of the policy came to what a printed reference did
pub record Did (frames crp n : ℕ) (u : Turn Model) (a : Referred) : Type 0 where
  pub blocks : u.model ≡ of_state frames crp a.state
  pub outcome : u.outcome ≡ outcome_of a
  pub left : left_by (outcome_of a) ≡ listed a.out
  pub sound : Sound frames n a.state
  pub standing : Standing lru_two u.model u.held

module _ (frames crp n : ℕ) (s : State) (held : List ℕ) (p : ℕ) (so : Sound frames n s) (least : 4 ≤ frames) (most : frames ≤ 64) (st : Standing lru_two (of_state frames crp s) held) where
  abbrev m : Model
  m = of_state frames crp s

  abbrev t : ℕ
  t = n + 1

  abbrev out : Option ℕ
  out = leaving lru_two m held t

  abbrev hit : Turn Model
  hit = record { model = touched m p t; held = held; outcome = Hit }

  abbrev fetch : Turn Model
  fetch = record { model = admitted m p out t; held = swapped held p out; outcome = Fetch out }

  in_buffer : (q : ℕ) → resident m q ≡ member q s.buffer
  in_buffer q = ap (member q) (pages_of s s.buffer)

  apart : distinct s.buffer ≡ true
  apart = once-distinct s.buffer (λ q. omega (arith, so.once q))

  as_long : size m ≡ length s.buffer
  as_long = length-map s.buffer (block_of s)

  kept_of : Kept (resident m) (size m) frames
  kept_of = record {
    least = least;
    most = most;
    within = (let e = as_long in let f = so.few in omega arith);
    counted = (s.buffer, apart, sym as_long, in_buffer);
  }

  -- a hit
  same-buffer : s.buffer ≡ (updated crp s t p).buffer
  same-buffer = by (uncorrelated crp s t p)
    where
      by : (b : Bool) → s.buffer ≡ (cond b (restarted s t p) s).buffer
      by true = refl
      by false = refl

  same-retained : s.retained ≡ (updated crp s t p).retained
  same-retained = by (uncorrelated crp s t p)
    where
      by : (b : Bool) → s.retained ≡ (cond b (restarted s t p) s).retained
      by true = refl
      by false = refl

  pub touched_is : member p s.buffer ≡ true → touched m p t ≡ of_state frames crp (updated crp s t p)
  touched_is here =
      let s' = updated crp s t p in
      let c = member-counted p s.buffer here in
      let o = so.once p in
      let away : member p s.retained ≡ false = not_counted p s.retained (omega arith) in
      models
      (anew p (refreshed crp t) s s' (updated-beside crp s t p) (updated-here crp s t p) s.buffer apart ∙ ap (map (block_of s')) same-buffer)
      (elsewhere p s s' (updated-beside crp s t p) s.retained away ∙ ap (map (block_of s')) same-retained)

  did-hit : member p s.buffer ≡ true → Did frames crp (n + 1) hit (printed.hit (updated crp s t p))
  did-hit here = record {
    blocks = touched_is here;
    outcome = refl;
    left = refl;
    sound = updated-sound frames crp n s p so;
    standing = record { resident = λ r. touched-resident m p t r ∙ st.resident r; size = touched-size m p t ∙ st.size };
  }

  -- the page that leaves
  out_is : out ≡ dropped frames crp s t
  out_is =
      let len : length held ≡ length s.buffer = sym st.size ∙ as_long in
      let ch = chosen_of s t (λ q. omega (arith, so.second q)) frames crp held (λ x h. sym (st.resident x) ∙ in_buffer x ∙ h) in
      λ i. cond (ltb (len i) frames) None (ch i)

  leaves_by : member p s.buffer ≡ false → Leaving lru_two m held p t out
  leaves_by away = record {
    is = refl;
    right = λ h. subst (λ (o : Option ℕ). Chosen (resident m) held o) (sym (ap (λ (b : Bool). cond b None (chosen m held t)) (le-ltb (length held) frames h))) (choice-right m held t (chosen m held t) (choice m held t));
    standing = st;
    kept = kept_of;
    absent = in_buffer p ∙ away;
  }

  drops : (o : Option ℕ) → Leaves (resident m) (size m) m.bound o → Drops frames s o
  drops None h = subst (λ (k : ℕ). k < frames) as_long h
  drops (Some v) h = sym (in_buffer v) ∙ h

  -- what an admission makes of the blocks
  module _ (away : member p s.buffer ≡ false) (o : Option ℕ) where
    abbrev s' : State
    s' = fetched frames s t p o

    beside : Beside p s s'
    beside = fetched-beside frames s t p o

    new-block : ◌≡◌ {A = Block} (record { page = p; hist1 = t; hist2 = earlier p m.retained; last = t }) (block_of s' p)
    new-block = ap (λ (h : ℕ). record { page = p; hist1 = t; hist2 = h; last = t }) (earlier_of s p s.retained) ∙ fetched-here frames s t p o

    none_left : count p (without p s.retained) ≡ 0
    none_left = out_of frames n s p so away

    forgotten_is : less p m.retained ≡ map (block_of s) (without p s.retained)
    forgotten_is = less_of s p s.retained

  pub admitted_is : member p s.buffer ≡ false → (o : Option ℕ) → Drops frames s o → admitted m p o t ≡ of_state frames crp (fetched frames s t p o)
  admitted_is away None d =
      let a = new-block away None in
      let b = elsewhere p s (s' away None) (beside away None) s.buffer away in
      let c = forgotten_is away None ∙ elsewhere p s (s' away None) (beside away None) (without p s.retained) (not_counted p _ (none_left away None)) in
      models (λ i. a i ∷ b i) c
  admitted_is away (Some v) d =
      let w = s' away (Some v) in
      let k = beside away (Some v) in
      let rest = without p s.retained in
      let a = new-block away (Some v) in
      let other : eqb v p ≡ false = by_bool (eqb v p) (λ e. absurd (false≢true (sym away ∙ subst (λ (x : ℕ). member x s.buffer ≡ true) (eqb-true v p e) d))) (λ e. e) in
      let gone : member p (without v s.buffer) ≡ false = not_counted p _ (let x = count_less_le v p s.buffer in let y = count_none p s.buffer away in omega arith) in
      let b = less_of s v s.buffer ∙ elsewhere p s w k (without v s.buffer) gone in
      let few : count p (v ∷ rest) ≡ 0 = ap (λ (x : Bool). cond x 1 0 + count p rest) other ∙ (let z = none_left away (Some v) in omega arith) in
      let out-too : member p (take (frames / 2) (v ∷ rest)) ≡ false = not_counted p _ (let x = count-take p (frames / 2) (v ∷ rest) in omega arith) in
      let c = ap (λ (bs : List Block). take (frames / 2) (block_of s v ∷ bs)) (forgotten_is away (Some v)) ∙ take-map (block_of s) (frames / 2) (v ∷ rest) ∙ elsewhere p s w k (take (frames / 2) (v ∷ rest)) out-too in
      ap (λ (f : Option Block). come (model.dropped (forgotten m p) v f) (earlier p m.retained) p t) (found_of s v s.buffer d) ∙ models (λ i. a i ∷ b i) c

  did-fetch : member p s.buffer ≡ false → Did frames crp (n + 1) fetch (printed.miss frames s t p out)
  did-fetch away =
      let k = leaves_by away in
      let l = leaves (resident m) (size m) m.bound p out (accepted lru_two m held p t out k) in
      let d = drops out l in
      record {
        blocks = admitted_is away out d;
        outcome = refl;
        left = left-fetch out;
        sound = fetched-sound frames n s p out so away d;
        standing = standing-again lru_two m held p t out (admitted m p out t) k (admitted-resident m p t out (ap distinct (pages_of s s.buffer) ∙ apart) l) (admitted-size m p t out l);
      }

  by : (u u' : Turn Model) (a a' : Referred) → u ≡ u' → a ≡ a' → Did frames crp (n + 1) u' a' → Did frames crp (n + 1) u a
  by u u' a a' eu ea d = subst (λ (v : Turn Model). Did frames crp (n + 1) v a) (sym eu) (subst (λ (b : Referred). Did frames crp (n + 1) u' b) (sym ea) d)

  pub refers : Did frames crp (n + 1) (turn lru_two m held p t) (reference frames crp s t p)
  refers =
      let h = printed.hit (updated crp s t p) in
      let f = printed.miss frames s t p (dropped frames crp s t) in
      by_bool (member p s.buffer)
      (λ e. by _ hit _ h (ap (λ (b : Bool). cond b hit fetch) (in_buffer p ∙ e)) (ap (λ (b : Bool). cond b h f) e) (did-hit e))
      (λ e. by _ fetch _ (printed.miss frames s t p out) (ap (λ (b : Bool). cond b hit fetch) (in_buffer p ∙ e)) (ap (λ (b : Bool). cond b h f) e ∙ ap (printed.miss frames s t p) (sym out_is)) (did-fetch e))
