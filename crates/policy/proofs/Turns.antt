-- One reference that is no hit: the admission is accepted, and the pages in the frames are again the
-- resident ones.
use Rattle.std.proofs.Common.{◌≡◌, ℕ, ◌<◌, ◌≤◌, Bool, true, false, cond, eqb, ltb, List, length, Some, None, Option, sym, refl, ap, ◌∙◌, subst, ⊎_elim, arith, lt-ltb}
use Rattle.std.proofs.lemmas.Bool.{cases_lt}
use Rattle.policy.specs.Runs.{swapped, leaving, Turn, turn, Standing}
use Rattle.policy.specs.Sets.{member, Chosen, accepts, entered, grown, Kept}
use Rattle.policy.specs.declared.outcome.Outcome.TheVariants.{Hit, Fetch}
use Rattle.policy.specs.declared.policy.Policy as policy
use Rattle.policy.proofs.Swaps.{Stands, member-swapped, length-swapped, some-resident}

module _ {P : Type 0} (g : policy.Ghosts P) (m : g.Model) (held : List ℕ) (page t : ℕ) where
  -- what is known of the page that has to leave
  pub record Leaving (out : Option ℕ) : Type 0 where
    pub is : out ≡ leaving g m held t
    pub right : g.bound m ≤ length held → Chosen (g.resident m) held out
    pub standing : Standing g m held
    pub kept : Kept (g.resident m) (g.size m) (g.bound m)
    pub absent : g.resident m page ≡ false

  pub room : (out : Option ℕ) → Leaving out → out ≡ None → length held < g.bound m
  room out l e =
      ⊎_elim (λ h. h)
      (λ h. absurd (some-resident (g.resident m) held (omega (arith, l.kept.least)) l.standing.resident (subst (λ (o : Option ℕ). Chosen (g.resident m) held o) e (l.right h))))
      (cases_lt (length held) (g.bound m))

  chosen-stands : (gone : ℕ) → Leaving (Some gone) → g.resident m gone ≡ true
  chosen-stands gone l =
      ⊎_elim
      (λ h. let e : ◌≡◌ {A = Option ℕ} (Some gone) None = l.is ∙ ap (λ (b : Bool). cond b None (g.chosen m held t)) (lt-ltb (length held) (g.bound m) h) in let z : ◌≡◌ {A = ℕ} 0 1 = cc in absurd (omega arith))
      (λ h. (l.right h).1)
      (cases_lt (length held) (g.bound m))

  pub accepted : (out : Option ℕ) → Leaving out → accepts (g.resident m) (g.size m) (g.bound m) page out ≡ true
  accepted None l = ap (λ (b : Bool). cond b false (ltb (g.size m) (g.bound m))) l.absent ∙ lt-ltb (g.size m) (g.bound m) (let r = room None l refl in let s = l.standing.size in omega arith)
  accepted (Some gone) l = ap (λ (b : Bool). cond b false (g.resident m gone)) l.absent ∙ chosen-stands gone l

  pub accepted_by : (out : Option ℕ) (r : Bool) → Leaving out → r ≡ accepts (g.resident m) (g.size m) (g.bound m) page out → r ≡ true
  accepted_by out r l e = e ∙ accepted out l

  stands : (out : Option ℕ) → Leaving out → Stands out held
  stands None l = tt
  stands (Some gone) l = sym (l.standing.resident gone) ∙ chosen-stands gone l

  entered-same : (f h : ℕ → Bool) → ((q : ℕ) → f q ≡ h q) → (out : Option ℕ) (q : ℕ) → entered f page out q ≡ entered h page out q
  entered-same f h e None q = ap (λ (b : Bool). cond (eqb q page) true b) (e q)
  entered-same f h e (Some gone) q = ap (λ (b : Bool). cond (eqb q page) true (cond (eqb q gone) false b)) (e q)

  pub standing-again : (out : Option ℕ) (m' : g.Model) → Leaving out → ((q : ℕ) → g.resident m' q ≡ entered (g.resident m) page out q) → g.size m' ≡ grown (g.size m) out → Standing g m' (swapped held page out)
  standing-again out m' l r s = record {
    resident = λ q. r q ∙ entered-same (g.resident m) (λ x. member x held) l.standing.resident out q ∙ sym (member-swapped held page out q (stands out l));
    size = s ∙ ap (λ (n : ℕ). grown n out) l.standing.size ∙ sym (length-swapped held page out);
  }

  -- `held'` are the pages in the frames after the swap
  pub standing-after : (out : Option ℕ) (m' : g.Model) (held' : List ℕ) → Leaving out → ((q : ℕ) → g.resident m' q ≡ entered (g.resident m) page out q) → g.size m' ≡ grown (g.size m) out → held' ≡ swapped held page out → Standing g m' held'
  standing-after out m' held' l r s e = subst (λ (h : List ℕ). Standing g m' h) (sym e) (standing-again out m' l r s)

  -- what a fetch leaves is what the turn says, where the miss left the model m₁ as it was
  pub fetched : (m₁ m' : g.Model) (held' : List ℕ) (out : Option ℕ) → m₁ ≡ m → g.resident m page ≡ false → out ≡ leaving g m₁ held t → m' ≡ g.admitted m₁ page out t → held' ≡ swapped held page out
      → ◌≡◌ {A = Turn g.Model} (record { model = m'; held = held'; outcome = Fetch out }) (turn g m held page t)
  fetched m₁ m' held' out em miss eo ea eh =
      let o : out ≡ leaving g m held t = eo ∙ ap (λ (n : g.Model). leaving g n held t) em in
      let a : m' ≡ g.admitted m page (leaving g m held t) t = ea ∙ ap (λ (n : g.Model). g.admitted n page out t) em ∙ ap (λ (u : Option ℕ). g.admitted m page u t) o in
      let h : held' ≡ swapped held page (leaving g m held t) = eh ∙ ap (swapped held page) o in
      ◌∙◌ {b = record { model = g.admitted m page (leaving g m held t) t; held = swapped held page (leaving g m held t); outcome = Fetch (leaving g m held t) }}
      (λ i. record { model = a i; held = h i; outcome = Fetch (o i) })
      (sym (ap (λ (b : Bool). cond b (record { model = g.touched m page t; held = held; outcome = Hit }) (record { model = g.admitted m page (leaving g m held t) t; held = swapped held page (leaving g m held t); outcome = Fetch (leaving g m held t) })) miss))
