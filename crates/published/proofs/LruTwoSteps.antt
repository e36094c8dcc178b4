-- One accepted fix of a pool under LRU-2 is one reference of LRU-2 among the free pages.
use Rattle.std.proofs.Common.{◌≡◌, ℕ, ◌+◌, ◌<◌, ◌≤◌, Bool, true, false, cond, ltb, List, length, Some, None, Option, sym, refl, ap, ◌∙◌, subst, arith, ltb-false, ltb-true}
use Rattle.std.specs.Option.{option_map, option_or}
use Rattle.std.proofs.lemmas.List.{length-map}
use Rattle.policy.specs.Frames.{InRange}
use Rattle.policy.specs.Runs.{left_by, Standing}
use Rattle.policy.specs.Sets.{member, Counted, Chosen}
use Rattle.policy.specs.declared.outcome.Outcome.{Outcome}
use Rattle.policy.specs.declared.outcome.Outcome.TheVariants.{Hit, Fetch}
use Rattle.blocks.specs.declared.block.Block.{Block}
use Rattle.blocks.specs.Blocks.{candidate}
use Rattle.recency.proofs.Pages.{by_bool}
use Rattle.policy.proofs.Counts.{once-distinct}
use Rattle.lru_two.specs.AsPrinted.{block_of, of_state}
use Rattle.lru_two.specs.Model.{Model, resident, size, touched, chosen, admitted}
use Rattle.lru_two.specs.Of.{lru_two}
use Rattle.lru_two.specs.Printed.{State, uncorrelated, updated, scan, Referred, hit, miss, listed}
use Rattle.lru_two.proofs.Picks.{choice, choice-right}
use Rattle.lru_two.proofs.References.{left-fetch, touched_is, admitted_is}
use Rattle.lru_two.proofs.Shown.{pages_of}
use Rattle.lru_two.proofs.Sounds.{Sound, updated-sound, Drops, fetched-sound}
use Rattle.lru_two.proofs.Victims.{scan_of, pages-either}
use Rattle.turns.specs.Turns.{Course, outcome_of, after}
use Rattle.published.specs.Fixings.{Fixing}
use Rattle.published.specs.LruTwoAmong.{victim_among, dropped_among, reference_among, came_to}
use Rattle.published.proofs.Follows.{Fixes}
use Rattle.published.proofs.Rooms.{SomeFree, chosen-one}

pub right : (m : Model) (l : List ℕ) (t : ℕ) → Chosen (resident m) l (chosen m l t)
right m l t = choice-right m l t (chosen m l t) (choice m l t)

either-one : (b : Bool) → cond b true false ≡ b
either-one true = refl
either-one false = refl

-- the choice hangs on which pages of the buffer are listed
chosen-among : (frames crp : ℕ) (s : State) (t : ℕ) (l : List ℕ) (free : ℕ → Bool) → ((q : ℕ) → s.hist2 q < t) → ((x : ℕ) → member x s.buffer ≡ true → member x l ≡ free x) → chosen (of_state frames crp s) l t ≡ victim_among crp free s t
chosen-among frames crp s t l free old h =
    let far : ℕ → Bool = λ q. cond (free q) (uncorrelated crp s t q) false in
    let a = scan_of s t old (candidate l (Some crp) t) far None s.buffer (λ x m. ap (λ (b : Bool). cond b (uncorrelated crp s t x) false) (h x m)) in
    let c = scan_of s t old (candidate l None t) free None s.buffer (λ x m. ap (λ (b : Bool). cond b true false) (h x m) ∙ either-one (free x)) in
    (λ i. option_map (λ (b : Block). b.page) (option_or (a i) (c i))) ∙ pages-either s t old (scan s t far None s.buffer) (scan s t free None s.buffer)

-- the model after an outcome
abbrev pub model_after : Model → ℕ → ℕ → Outcome → Model
model_after m x t Hit = touched m x t
model_after m x t (Fetch out) = admitted m x out t

after_is : (c : Course Model) (x t : ℕ) (o : Outcome) → (after lru_two c x t o).model ≡ model_after c.model x t o
after_is c x t Hit = refl
after_is c x t (Fetch out) = refl

-- a model and an outcome are what a reference at the time n came to
pub record Came (frames crp n : ℕ) (m' : Model) (o : Outcome) (a : Referred) : Type 0 where
  pub blocks : m' ≡ of_state frames crp a.state
  pub outcome : o ≡ came_to a
  pub left : left_by (came_to a) ≡ listed a.out
  pub sound : Sound frames n a.state

module _ (frames crp n : ℕ) (range : InRange frames) (s : State) (f : Fixing) (l : List ℕ) (so : Sound frames n s) (exact : (r : ℕ) → member r l ≡ cond (resident (of_state frames crp s) r) (f.free r) false) (some : SomeFree frames (resident (of_state frames crp s)) f) where
  abbrev m : Model
  m = of_state frames crp s

  abbrev t : ℕ
  t = n + 1

  abbrev p : ℕ
  p = f.page

  abbrev out : Option ℕ
  out = cond (ltb (size m) frames) None (chosen m l t)

  in_buffer : (q : ℕ) → resident m q ≡ member q s.buffer
  in_buffer q = ap (member q) (pages_of s s.buffer)

  as_long : size m ≡ length s.buffer
  as_long = length-map s.buffer (block_of s)

  standing : Standing lru_two m s.buffer
  standing = record { resident = in_buffer; size = as_long }

  counted : Counted (resident m) (length s.buffer)
  counted = (s.buffer, once-distinct s.buffer (λ q. omega (arith, so.once q)), refl, in_buffer)

  out_is : out ≡ dropped_among frames crp f.free s t
  out_is =
      let ch = chosen-among frames crp s t l f.free (λ q. omega (arith, so.second q)) (λ x h. exact x ∙ ap (λ (b : Bool). cond b (f.free x) false) (in_buffer x ∙ h)) in
      λ i. cond (ltb (as_long i) frames) None (ch i)

  drops-chosen : member p s.buffer ≡ false → frames ≤ length s.buffer → Drops frames s (chosen m l t)
  drops-chosen away full =
      let y = chosen-one (resident m) f.free l (chosen m l t) exact (some (in_buffer p ∙ away) (length s.buffer) counted full) (right m l t) in
      subst (Drops frames s) (sym y.1) (sym (in_buffer y.0) ∙ y.2)

  drops : member p s.buffer ≡ false → Drops frames s out
  drops away =
      by_bool (ltb (size m) frames)
      (λ e. subst (Drops frames s) (sym (ap (λ (b : Bool). cond b None (chosen m l t)) e)) (let k = ltb-true (size m) frames e in let h = as_long in omega arith))
      (λ e. subst (Drops frames s) (sym (ap (λ (b : Bool). cond b None (chosen m l t)) e)) (drops-chosen away (let k = ltb-false (size m) frames e in let h = as_long in omega arith)))

  did-hit : member p s.buffer ≡ true → Came frames crp t (touched m p t) Hit (hit (updated crp s t p))
  did-hit here = record {
    blocks = touched_is frames crp n s s.buffer p so range.0 range.1 standing here;
    outcome = refl;
    left = refl;
    sound = updated-sound frames crp n s p so;
  }

  did-fetch : member p s.buffer ≡ false → Came frames crp t (admitted m p out t) (Fetch out) (miss frames s t p out)
  did-fetch away = record {
    blocks = admitted_is frames crp n s s.buffer p so range.0 range.1 standing away out (drops away);
    outcome = refl;
    left = left-fetch out;
    sound = fetched-sound frames n s p out so away (drops away);
  }

  by : (o o' : Outcome) (a a' : Referred) → o ≡ o' → a ≡ a' → Came frames crp t (model_after m p t o') o' a' → Came frames crp t (model_after m p t o) o a
  by o o' a a' eo ea d = subst (λ (u : Outcome). Came frames crp t (model_after m p t u) u a) (sym eo) (subst (λ (b : Referred). Came frames crp t (model_after m p t o') o' b) (sym ea) d)

  refers : Came frames crp t (model_after m p t (outcome_of lru_two m l p t)) (outcome_of lru_two m l p t) (reference_among frames crp s t f)
  refers =
      let h = hit (updated crp s t p) in
      let g = miss frames s t p (dropped_among frames crp f.free s t) in
      by_bool (member p s.buffer)
      (λ e. by _ Hit _ h (ap (λ (b : Bool). cond b Hit (Fetch out)) (in_buffer p ∙ e)) (ap (λ (b : Bool). cond b h g) e) (did-hit e))
      (λ e. by _ (Fetch out) _ (miss frames s t p out) (ap (λ (b : Bool). cond b Hit (Fetch out)) (in_buffer p ∙ e)) (ap (λ (b : Bool). cond b h g) e ∙ ap (miss frames s t p) (sym out_is)) (did-fetch e))

-- the same of a fix of a pool
pub fix-came : (frames crp n : ℕ) (s : State) (c d : Course Model) (f : Fixing) (o : Outcome) → InRange frames → c.model ≡ of_state frames crp s → Sound frames n s → Fixes lru_two right frames c f (n + 1) o d → Came frames crp (n + 1) d.model o (reference_among frames crp s (n + 1) f)
fix-came frames crp n s c d f o range e so h =
    let k = of_state frames crp s in
    let l = h.turn.listed in
    let a = reference_among frames crp s (n + 1) f in
    let exact = subst (λ (v : Model). (r : ℕ) → member r l ≡ cond (resident v r) (f.free r) false) e h.turn.exact in
    let some = subst (λ (v : Model). SomeFree frames (resident v) f) e h.some in
    let came = refers frames crp n range s f l so exact some in
    let out : o ≡ outcome_of lru_two k l f.page (n + 1) = h.turn.outcome ∙ ap (λ (v : Model). outcome_of lru_two v l f.page (n + 1)) e in
    let model : d.model ≡ model_after k f.page (n + 1) o = ap (λ (v : Course Model). v.model) h.turn.course ∙ after_is c f.page (n + 1) o ∙ ap (λ (v : Model). model_after v f.page (n + 1) o) e in
    subst (λ (v : Model). Came frames crp (n + 1) v o a) (sym model)
    (subst (λ (u : Outcome). Came frames crp (n + 1) (model_after k f.page (n + 1) u) u a) (sym out) came)
