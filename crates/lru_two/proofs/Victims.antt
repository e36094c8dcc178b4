-- The scan over the blocks of a printed state is the printed scan.
use Rattle.std.proofs.Common.{◌≡◌, ℕ, ◌<◌, Bool, true, false, cond, eqb, ltb, List, [], ◌∷◌, map, Some, None, Option, sym, refl, ap, ◌∙◌, arith}
use Rattle.std.specs.Option.{option_map, option_or}
use Rattle.std.proofs.lemmas.Bool.{eq-eqb, lt-ltb}
use Rattle.std.proofs.lemmas.Bool.Decides.{nat_tests}
use Rattle.policy.specs.Sets.{member}
use Rattle.blocks.specs.declared.block.Block.{Block}
use Rattle.blocks.specs.Blocks.{before, candidate, lesser, scanned}
use Rattle.lru_two.specs.Model.{chosen}
use Rattle.lru_two.specs.AsPrinted.{block_of, of_state}
use Rattle.lru_two.specs.Printed as printed
use Rattle.lru_two.specs.Printed.{State, uncorrelated, tie, scan, either, victim}
use Rattle.recency.proofs.Pages.{by_bool}

module _ (s : State) (t : ℕ) (old : (q : ℕ) → s.hist2 q < t) where
  sooner : (x v : ℕ) → before (block_of s x) (block_of s v) ≡ cond (ltb (s.hist2 x) (s.hist2 v)) true (tie s x (Some v))
  sooner x v = grind (arith, nat_tests)

  two_ways : (a c : Bool) (x v : ℕ) → Some (cond (cond a true c) (block_of s x) (block_of s v)) ≡ option_map (block_of s) (cond a (Some x) (cond c (Some x) (Some v)))
  two_ways true c x v = refl
  two_ways false true x v = refl
  two_ways false false x v = refl

  one : (v : Option ℕ) (x : ℕ) → Some (lesser (option_map (block_of s) v) (block_of s x)) ≡ option_map (block_of s) (cond (ltb (s.hist2 x) (printed.min s t v)) (Some x) (cond (tie s x v) (Some x) v))
  one None x = ap (λ (b : Bool). option_map (block_of s) (cond b (Some x) None)) (sym (lt-ltb (s.hist2 x) t (old x)))
  one (Some v) x = ap (λ (b : Bool). Some (cond b (block_of s x) (block_of s v))) (sooner x v) ∙ two_ways (ltb (s.hist2 x) (s.hist2 v)) (tie s x (Some v)) x v

  turn_of : (b : Bool) (v : Option ℕ) (x : ℕ) → cond b (Some (lesser (option_map (block_of s) v) (block_of s x))) (option_map (block_of s) v) ≡ option_map (block_of s) (cond b (cond (ltb (s.hist2 x) (printed.min s t v)) (Some x) (cond (tie s x v) (Some x) v)) v)
  turn_of true v x = one v x
  turn_of false v x = refl

  pub scan_of : (ok : Block → Bool) (may : ℕ → Bool) (v : Option ℕ) (xs : List ℕ) → ((x : ℕ) → member x xs ≡ true → ok (block_of s x) ≡ may x) → scanned ok (option_map (block_of s) v) (map (block_of s) xs) ≡ option_map (block_of s) (scan s t may v xs)
  scan_of ok may v [] h = refl
  scan_of ok may v (x ∷ xs) h =
      let here : ok (block_of s x) ≡ may x = h x (ap (λ (b : Bool). cond b true (member x xs)) (eq-eqb x x refl)) in
      let next = cond (may x) (cond (ltb (s.hist2 x) (printed.min s t v)) (Some x) (cond (tie s x v) (Some x) v)) v in
      ap (λ (o : Option Block). scanned ok o (map (block_of s) xs)) (ap (λ (b : Bool). cond b (Some (lesser (option_map (block_of s) v) (block_of s x))) (option_map (block_of s) v)) here ∙ turn_of (may x) v x)
      ∙ scan_of ok may next xs (λ y m. h y (later y m))
    where
      later : (y : ℕ) → member y xs ≡ true → member y (x ∷ xs) ≡ true
      later y m = by_bool (eqb x y) (λ e. rw e) (λ e. rw e m)

  pub pages-either : (o u : Option ℕ) → option_map (λ (b : Block). b.page) (option_or (option_map (block_of s) o) (option_map (block_of s) u)) ≡ either o u
  pages-either (Some x) u = refl
  pages-either None None = refl
  pages-either None (Some x) = refl

  -- where every page in the buffer is listed, the choice is the printed victim
  pub chosen_of : (frames crp : ℕ) (listed : List ℕ) → ((x : ℕ) → member x s.buffer ≡ true → member x listed ≡ true) → chosen (of_state frames crp s) listed t ≡ victim crp s t
  chosen_of frames crp listed h =
      let a = scan_of (candidate listed (Some crp) t) (uncorrelated crp s t) None s.buffer (λ x m. ap (λ (b : Bool). cond b (uncorrelated crp s t x) false) (h x m)) in
      let c = scan_of (candidate listed None t) (λ x. true) None s.buffer (λ x m. ap (λ (b : Bool). cond b true false) (h x m)) in
      (λ i. option_map (λ (b : Block). b.page) (option_or (a i) (c i))) ∙ pages-either (scan s t (uncorrelated crp s t) None s.buffer) (scan s t (λ x. true) None s.buffer)
