-- One reference to the policy is one access of the printed algorithm.
use Rattle.std.proofs.Common.{◌≡◌, ℕ, Bool, true, false, cond, List, [], ◌∷◌, length, Some, None, Option, sym, refl, ap, ◌∙◌, subst, arith, le-ltb}
use Rattle.policy.specs.Runs.{leaving, swapped, Turn, turn, left_by, Standing}
use Rattle.policy.specs.Sets.{member, Chosen}
use Rattle.policy.specs.declared.outcome.Outcome.{Outcome}
use Rattle.policy.specs.declared.outcome.Outcome.TheVariants.{Hit, Fetch}
use Rattle.policy.proofs.Admissions.{leaves}
use Rattle.policy.proofs.Counts.{none-less, member-counted}
use Rattle.policy.proofs.Turns.{Leaving, accepted, standing-again}
use Rattle.recency.proofs.Pages.{by_bool}
use Rattle.two_q.specs.AsPrinted.{of_queues}
use Rattle.two_q.specs.Lists.{less}
use Rattle.two_q.specs.Model.{Model, resident, size, touched, chosen, forgotten, gone, come, admitted}
use Rattle.two_q.specs.Of.{two_q}
use Rattle.two_q.specs.Printed.{Queues, put, reclaimfor, Accessed, found, onto_am, onto_ain, access}
use Rattle.two_q.proofs.Laws.{touched-resident, touched-size, chosen-right, admitted-resident, admitted-size}
use Rattle.two_q.proofs.Models.{models}
use Rattle.two_q.proofs.Pages.{none-moved}
use Rattle.two_q.proofs.Reclaims.{Same, reclaims}
use Rattle.two_q.proofs.Sounds.{Sound, kept-sound, touched-sound, forgotten-sound, admitted-sound}

abbrev pub outcome_of : Accessed → Outcome
outcome_of a = cond a.fetched (Fetch a.out) Hit

pub left-fetch : (o : Option ℕ) → left_by (Fetch o) ≡ put o []
left-fetch None = refl
left-fetch (Some x) = refl

-- a turn of the policy came to what an access did
pub record Did (slots : ℕ) (u : Turn Model) (a : Accessed) : Type 0 where
  pub lists : u.model ≡ of_queues slots a.queues
  pub outcome : u.outcome ≡ outcome_of a
  pub left : left_by (outcome_of a) ≡ put a.out []
  pub sound : Sound u.model
  pub standing : Standing two_q u.model u.held

module _ (slots : ℕ) (q : Queues) (held : List ℕ) (x t : ℕ) (s : Sound (of_queues slots q)) (st : Standing two_q (of_queues slots q) held) where
  abbrev m : Model
  m = of_queues slots q

  abbrev out : Option ℕ
  out = leaving two_q m held t

  abbrev hit : Turn Model
  hit = record { model = touched m x; held = held; outcome = Hit }

  abbrev fetch : Turn Model
  fetch = record { model = admitted m x out; held = swapped held x out; outcome = Fetch out }

  did-hit : (q' : Queues) → touched m x ≡ of_queues slots q' → Did slots hit (found q')
  did-hit q' e = record {
    lists = e;
    outcome = refl;
    left = refl;
    sound = touched-sound m x s;
    standing = record { resident = λ r. touched-resident m x r ∙ st.resident r; size = touched-size m x ∙ st.size };
  }

  leaves_by : resident m x ≡ false → Leaving two_q m held x t out
  leaves_by away = record {
    is = refl;
    right = λ h. subst (λ (o : Option ℕ). Chosen (resident m) held o) (sym (ap (λ (b : Bool). cond b None (chosen m held)) (le-ltb (length held) slots h))) (chosen-right m held);
    standing = st;
    kept = kept-sound m s;
    absent = away;
  }

  did-fetch : (a : Accessed) → resident m x ≡ false → admitted m x out ≡ of_queues slots a.queues → Fetch out ≡ outcome_of a → left_by (outcome_of a) ≡ put a.out [] → Did slots fetch a
  did-fetch a away e o w =
      let k = leaves_by away in
      let l = leaves (resident m) (size m) m.bound x out (accepted two_q m held x t out k) in
      record {
        lists = e;
        outcome = o;
        left = w;
        sound = admitted-sound m x out s away l;
        standing = standing-again two_q m held x t out (admitted m x out) k (admitted-resident m x out (λ r. omega (arith, s.once r)) l) (admitted-size m x out l);
      }

  -- the queues with X taken out of Aout
  abbrev without_x : Queues
  without_x = record { am = q.am; ain = q.ain; aout = less x q.aout }

  room : Same slots (forgotten m x) out (reclaimfor slots without_x)
  room = reclaims slots without_x held (forgotten-sound m x s) (record { resident = st.resident; size = st.size }) t

  known : member x q.aout ≡ true → resident m x ≡ false → Did slots fetch (onto_am x (reclaimfor slots without_x))
  known k away =
      did-fetch _ away
      (ap (λ (b : Bool). come (gone (forgotten m x) out) b x) k ∙ ap (λ (n : Model). come n true x) room.lists)
      (ap Fetch room.out)
      (left-fetch _)

  new : member x q.aout ≡ false → resident m x ≡ false → Did slots fetch (onto_ain x (reclaimfor slots q))
  new k away =
      let same : without_x ≡ q = λ i. record { am = q.am; ain = q.ain; aout = sym (none-less x q.aout k) i } in
      did-fetch _ away
      (ap (λ (b : Bool). come (gone (forgotten m x) out) b x) k ∙ ap (λ (n : Model). come n false x) room.lists ∙ ap (λ (w : Queues). of_queues slots (onto_ain x (reclaimfor slots w)).queues) same)
      (ap Fetch (room.out ∙ ap (λ (w : Queues). (reclaimfor slots w).out) same))
      (left-fetch _)

  by : (u u' : Turn Model) (a a' : Accessed) → u ≡ u' → a ≡ a' → Did slots u' a' → Did slots u a
  by u u' a a' eu ea d = subst (λ (v : Turn Model). Did slots v a) (sym eu) (subst (λ (b : Accessed). Did slots u' b) (sym ea) d)

  turn-hit : resident m x ≡ true → turn two_q m held x t ≡ hit
  turn-hit e = ap (λ (b : Bool). cond b hit fetch) e

  turn-fetch : resident m x ≡ false → turn two_q m held x t ≡ fetch
  turn-fetch e = ap (λ (b : Bool). cond b hit fetch) e

  pub accesses : Did slots (turn two_q m held x t) (access slots q x)
  accesses =
      by_bool (member x q.am)
      (λ a. by _ hit _ _ (turn-hit (rw a)) (rw a) (did-hit (record { am = x ∷ less x q.am; ain = q.ain; aout = q.aout }) (models (ap (λ (b : Bool). cond b (x ∷ less x q.am) q.am) a) refl refl)))
      (λ a. by_bool (member x q.ain)
      (λ i. let c = member-counted x q.ain i in
      let o = s.once x in
      let w : member x q.aout ≡ false = by_bool (member x q.aout) (λ k. let d = member-counted x q.aout k in absurd (omega arith)) (λ k. k) in
      by _ hit _ (found q) (turn-hit (rw a i)) (rw (a, w, i)) (did-hit q (models (sym (none-moved x q.am a)) refl refl)))
      (λ i. let away : resident m x ≡ false = rw a i in
      by_bool (member x q.aout)
      (λ k. by _ fetch _ (onto_am x (reclaimfor slots without_x)) (turn-fetch away) (rw (a, k)) (known k away))
      (λ k. by _ fetch _ (onto_ain x (reclaimfor slots q)) (turn-fetch away) (rw (a, k, i)) (new k away))))
