-- A run, one reference after another.
use Rattle.std.proofs.Common.{◌≡◌, ℕ, ◌+◌, ◌-◌, ◌<◌, ◌≤◌, List, [], ◌∷◌, ◌++◌, length, get_or, take, drop, sym, ap, ◌∙◌, subst, arith}
use Rattle.std.proofs.lemmas.List.{drop_more, drop-drop, at_drop_all, length-take, length-take-le}
use Rattle.policy.specs.Runs.{Turn, turn, Course, start, onward, refer, run, hits, reach, DidRun}
use Rattle.policy.specs.declared.outcome.Outcome.{Outcome}
use Rattle.policy.specs.declared.policy.Policy as policy
use Rattle.policy.proofs.Tallies.{all-counted}

module _ {P : Type 0} (g : policy.Ghosts P) where
  abbrev pub at : g.Model → List ℕ → List Outcome → Course g.Model
  at m held os = record { model = m; held = held; outcomes = os }

  pub run_more : (m m' : g.Model) (held held' : List ℕ) (os os' : List Outcome) (o : Outcome) (s : List ℕ) (i : ℕ) → i < length s
      → ◌≡◌ {A = Turn g.Model} (record { model = m'; held = held'; outcome = o }) (turn g m held (get_or s i 0) (length os + 1)) → os' ≡ os ++ o ∷ []
      → run g (at m' held' os') (drop (i + 1) s) ≡ run g (at m held os) (drop i s)
  run_more m m' held held' os os' o s i l e eo =
      let x = get_or s i 0 in
      let next : at m' held' os' ≡ refer g (at m held os) x = (λ j. at m' held' (eo j)) ∙ ap (onward os) e in
      ap (λ (c : Course g.Model). run g c (drop (i + 1) s)) next ∙ sym (ap (run g (at m held os)) (drop_more s i 0 l))

  -- the same, where the page and the time are known by other names, and the run is to come to `end`
  pub run_on : (m m' : g.Model) (held held' : List ℕ) (os os' : List Outcome) (o : Outcome) (s : List ℕ) (i x t : ℕ) (end : Course g.Model) → i < length s
      → ◌≡◌ {A = Turn g.Model} (record { model = m'; held = held'; outcome = o }) (turn g m held x t) → x ≡ get_or s i 0 → t ≡ length os + 1 → os' ≡ os ++ o ∷ []
      → run g (at m held os) (drop i s) ≡ end → run g (at m' held' os') (drop (i + 1) s) ≡ end
  run_on m m' held held' os os' o s i x t end l e ex et eo er =
      run_more m m' held held' os os' o s i l (e ∙ (λ j. turn g m held (ex j) (et j))) eo ∙ er

pub drop-one-more : {X : Type 0} (xs ys : List X) (i : ℕ) → drop i xs ≡ drop i ys → drop (i + 1) xs ≡ drop (i + 1) ys
drop-one-more xs ys i e = sym (drop-drop 1 i xs) ∙ ap (drop 1) e ∙ drop-drop 1 i ys

module _ {P : Type 0} (g : policy.Ghosts P) (m₀ : g.Model) (string : List ℕ) (old os : List Outcome) where
  -- the end of a run of which all references are done
  pub did-run : (m₁ m : g.Model) (held : List ℕ) (n i h : ℕ) → n ≡ reach string old → i ≡ n → m₁ ≡ g.emptied m₀ → length os ≡ length old → h ≡ hits (take n os)
      → run g (at g m held (take i os)) (drop i (take n string)) ≡ run g (start m₁) (take n string) → drop i os ≡ drop i old → DidRun g m₀ string old h (n - h) m os
  did-run m₁ m held n i h en ei em el eh er ed =
      let k = reach string old in
      let here : i ≡ k = ei ∙ en in
      let past : length (take k string) ≤ k = omega (arith, length-take k string) in
      let all : run g (at g m held (take k os)) (drop k (take k string)) ≡ run g (start (g.emptied m₀)) (take k string) =
      subst (λ (j : ℕ). run g (at g m held (take j os)) (drop j (take k string)) ≡ run g (start (g.emptied m₀)) (take k string)) here
      (subst (λ (j : ℕ). run g (at g m held (take i os)) (drop i (take j string)) ≡ run g (start (g.emptied m₀)) (take j string)) en
      (subst (λ (x : g.Model). run g (at g m held (take i os)) (drop i (take n string)) ≡ run g (start x) (take n string)) em er)) in
      let end : at g m held (take k os) ≡ run g (start (g.emptied m₀)) (take k string) = sym (at_drop_all (run g (at g m held (take k os))) (take k string) k past) ∙ all in
      let hk : h ≡ hits (take k os) = eh ∙ ap (λ (j : ℕ). hits (take j os)) en in
      let lk : length (take k os) ≡ k = length-take-le k os (omega (arith, el)) in
      record {
        model = ap (λ (c : Course g.Model). c.model) end;
        outcomes = ap (λ (c : Course g.Model). c.outcomes) end;
        rest = subst (λ (j : ℕ). drop j os ≡ drop j old) here ed;
        hits = hk;
        fetches = (let a = all-counted (take k os) in omega arith);
      }
