-- The page that the policy lets go for a fetch is the one that the printed algorithm pages out, and
-- the lists are then the printed queues.
use Rattle.std.proofs.Common.{◌≡◌, ℕ, ◌+◌, ◌<◌, ◌≤◌, Bool, true, false, cond, ltb, List, ◌∷◌, length, take, Some, None, Option, sym, refl, ap, ◌∙◌, arith, ltb-false, ltb-true}
use Rattle.policy.specs.Runs.{leaving, Standing}
use Rattle.std.specs.Option.{option_or}
use Rattle.recency.proofs.Pages.{by_bool}
use Rattle.policy.specs.Once.{not_counted}
use Rattle.policy.specs.Sets.{member}
use Rattle.policy.proofs.Counts.{member-counted}
use Rattle.two_q.specs.AsPrinted.{of_queues}
use Rattle.two_q.specs.Lists.{nearest_tail}
use Rattle.two_q.specs.Model.{Model, chosen, gone}
use Rattle.two_q.specs.Of.{two_q}
use Rattle.two_q.specs.Printed.{Queues, Kin, Kout, tail_of, untailed, remembered, Reclaimed, reclaimfor}
use Rattle.two_q.proofs.Counts.{gone-a1in, gone_am}
use Rattle.two_q.proofs.Laws.{prefers_a1in, prefers_am}
use Rattle.two_q.proofs.Models.{models}
use Rattle.two_q.proofs.Sounds.{Sound}
use Rattle.two_q.proofs.Tails.{some-tail, tail-nearest, tail-member, less-tail, take-cut}

-- a list's pages that are all listed: its tail is chosen before any page of another list
chosen-tail : (l xs : List ℕ) (o : Option ℕ) (y : ℕ) → ((r : ℕ) → member r xs ≡ true → member r l ≡ true) → tail_of xs ≡ Some y → option_or (nearest_tail l xs) o ≡ Some y
chosen-tail l xs o y f e = ap (λ (u : Option ℕ). option_or u o) (tail-nearest l xs f ∙ e)

pub record Same (slots : ℕ) (m : Model) (l : Option ℕ) (r : Reclaimed) : Type 0 where
  pub out : l ≡ r.out
  pub lists : gone m l ≡ of_queues slots r.queues

module _ (slots : ℕ) (q : Queues) (held : List ℕ) (s : Sound (of_queues slots q)) (st : Standing two_q (of_queues slots q) held) where
  abbrev m : Model
  m = of_queues slots q

  in_am : (r : ℕ) → member r q.am ≡ true → member r held ≡ true
  in_am r h = sym (st.resident r) ∙ ap (λ (b : Bool). cond b true (member r q.ain)) h

  in_ain : (r : ℕ) → member r q.ain ≡ true → member r held ≡ true
  in_ain r h = sym (st.resident r) ∙ either (member r q.am) (member r q.ain) h
    where
      either : (a b : Bool) → b ≡ true → cond a true b ≡ true
      either true b e = refl
      either false b e = e

  alike : (l l' : Option ℕ) (r r' : Reclaimed) → l ≡ l' → r ≡ r' → Same slots m l' r' → Same slots m l r
  alike l l' r r' el er e = record {
    out = el ∙ e.out ∙ sym (ap (λ (x : Reclaimed). x.out) er);
    lists = ap (gone m) el ∙ e.lists ∙ sym (ap (λ (x : Reclaimed). of_queues slots x.queues) er);
  }

  -- what the three cases page out
  abbrev nothing : Reclaimed
  nothing = record { queues = q; out = None }

  abbrev off_ain_lem : Reclaimed
  off_ain_lem = record { queues = record { am = q.am; ain = untailed q.ain; aout = remembered slots (tail_of q.ain) q.aout }; out = tail_of q.ain }

  abbrev off_am_lem : Reclaimed
  off_am_lem = record { queues = record { am = untailed q.am; ain = q.ain; aout = q.aout }; out = tail_of q.am }

  from_ain : Kin slots < length q.ain → Same slots m (chosen m held) off_ain_lem
  from_ain h =
      let y = (some-tail q.ain (omega arith)).0 in
      let e = (some-tail q.ain (omega arith)).1 in
      let c = member-counted y q.ain (tail-member q.ain y e) in
      let o = s.once y in
      let away : member y q.am ≡ false = not_counted y q.am (omega arith) in
      let l : chosen m held ≡ Some y = sym (prefers_a1in m held q.ain q.am _ h (sym (chosen-tail held q.ain _ y in_ain e)) refl refl) in
      let cut' : take (Kout slots) (y ∷ q.aout) ≡ remembered slots (tail_of q.ain) q.aout = take-cut (Kout slots) (y ∷ q.aout) (let z = s.short in omega arith) ∙ ap (λ (u : Option ℕ). remembered slots u q.aout) (sym e) in
      record {
        out = l ∙ sym e;
        lists = ap (gone m) l ∙ gone-a1in m y away ∙ models refl (less-tail q.ain y e (omega arith)) cut';
      }

  from_am : length q.ain ≤ Kin slots → slots ≤ length q.am + length q.ain → Same slots m (chosen m held) off_am_lem
  from_am h f =
      let some : 0 < length q.am = (let z = s.least in omega arith) in
      let y = (some-tail q.am some).0 in
      let e = (some-tail q.am some).1 in
      let o = s.once y in
      let here : member y q.am ≡ true = tail-member q.am y e in
      let l : chosen m held ≡ Some y = sym (prefers_am m held q.am q.ain _ h (sym (chosen-tail held q.am _ y in_am e)) refl refl) in
      record {
        out = l ∙ sym e;
        lists = ap (gone m) l ∙ gone_am m y here ∙ models (less-tail q.am y e (omega arith)) refl refl;
      }

  pub reclaims : (t : ℕ) → Same slots m (leaving two_q m held t) (reclaimfor slots q)
  reclaims t =
      let n : ltb (length held) slots ≡ ltb (length q.am + length q.ain) slots = ap (λ (k : ℕ). ltb k slots) (sym st.size) in
      by_bool (ltb (length q.am + length q.ain) slots)
      (λ e. alike _ None _ nothing (ap (λ (b : Bool). cond b None (chosen m held)) (n ∙ e)) (rw e) (record { out = refl; lists = refl }))
      (λ e. by_bool (ltb (Kin slots) (length q.ain))
      (λ f. alike _ (chosen m held) _ off_ain_lem (ap (λ (b : Bool). cond b None (chosen m held)) (n ∙ e)) (rw (e, f)) (from_ain (ltb-true _ _ f)))
      (λ f. alike _ (chosen m held) _ off_am_lem (ap (λ (b : Bool). cond b None (chosen m held)) (n ∙ e)) (rw (e, f)) (from_am (ltb-false _ _ f) (ltb-false _ _ e))))
