-- Where every page is free, 2Q among the free pages is 2Q as printed.
use Rattle.std.proofs.Common.{◌≡◌, ℕ, ◌+◌, ◌<◌, Bool, true, cond, ltb, List, [], ◌∷◌, map, length, Option, sym, refl, ap, ◌∙◌, subst, arith, ltb-false, ltb-true}
use Rattle.policy.specs.Runs.{Standing}
use Rattle.policy.specs.Sets.{member}
use Rattle.policy.specs.declared.outcome.Outcome.{Outcome}
use Rattle.two_q.specs.AsPrinted.{of_queues}
use Rattle.two_q.specs.Lists.{less}
use Rattle.two_q.specs.Of.{two_q}
use Rattle.two_q.specs.Printed.{Queues, Kin, tail_of, untailed, remembered, Reclaimed, reclaimfor, Accessed, found, onto_am, onto_ain, access, Run, tallied, run_from}
use Rattle.two_q.proofs.Accesses as printed
use Rattle.recency.proofs.Pages.{by_bool}
use Rattle.two_q.proofs.Sounds.{Sound, kept-sound, forgotten-sound}
use Rattle.two_q.proofs.Tails.{some-tail, tail-nearest, less-tail}
use Rattle.published.specs.TwoQAmong.{nearest, off_ain, off_am, with, reclaim_among, access_among, run_among, came_to, outcomes}
use Rattle.published.proofs.AtOnces.{unheld}
use Rattle.published.proofs.TwoQSteps.{nearest-same}

abbrev all : ℕ → Bool
all q = true

nearest-all : (xs : List ℕ) → nearest all xs ≡ tail_of xs
nearest-all xs = sym (nearest-same xs all xs (λ r h. h)) ∙ tail-nearest xs xs (λ r h. h)

module _ (slots : ℕ) (q : Queues) (s : Sound (of_queues slots q)) where
  abbrev off_ain_lem : Reclaimed
  off_ain_lem = record { queues = record { am = q.am; ain = untailed q.ain; aout = remembered slots (tail_of q.ain) q.aout }; out = tail_of q.ain }

  abbrev off_am_lem : Reclaimed
  off_am_lem = record { queues = record { am = untailed q.am; ain = q.ain; aout = q.aout }; out = tail_of q.am }

  ain-all : (other : Reclaimed) → Kin slots < length q.ain → with (nearest all q.ain) (off_ain slots q) other ≡ off_ain_lem
  ain-all other h =
      let t = some-tail q.ain (omega arith) in
      let e = t.1 in
      let l = less-tail q.ain t.0 e (let o = s.once t.0 in omega arith) in
      ap (λ (o : Option ℕ). with o (off_ain slots q) other) (nearest-all q.ain ∙ e)
      ∙ (λ i. record { queues = record { am = q.am; ain = l i; aout = remembered slots (sym e i) q.aout }; out = sym e i })

  am_all : (other : Reclaimed) → 0 < length q.am → with (nearest all q.am) (off_am q) other ≡ off_am_lem
  am_all other h =
      let t = some-tail q.am h in
      let e = t.1 in
      let l = less-tail q.am t.0 e (let o = s.once t.0 in omega arith) in
      ap (λ (o : Option ℕ). with o (off_am q) other) (nearest-all q.am ∙ e)
      ∙ (λ i. record { queues = record { am = l i; ain = q.ain; aout = q.aout }; out = sym e i })

  reclaim_all : reclaim_among slots all q ≡ reclaimfor slots q
  reclaim_all =
      by_bool (ltb (length q.am + length q.ain) slots)
      (λ e. rw e)
      (λ e. by_bool (ltb (Kin slots) (length q.ain))
      (λ f. rw (e, f) (ain-all _ (ltb-true _ _ f)))
      (λ f. rw (e, f) (am_all _ (let a = ltb-false _ _ e in let b = ltb-false _ _ f in let z = s.least in omega arith))))

access-all : (slots : ℕ) (q : Queues) (x : ℕ) → Sound (of_queues slots q) → access_among slots q (unheld x) ≡ access slots q x
access-all slots q x s =
    let q' : Queues = record { am = q.am; ain = q.ain; aout = less x q.aout } in
    let a = reclaim_all slots q' (forgotten-sound (of_queues slots q) x s) in
    let b = reclaim_all slots q s in
    λ i. cond (member x q.am)
    (found (record { am = x ∷ less x q.am; ain = q.ain; aout = q.aout }))
    (cond (member x q.aout) (onto_am x (a i)) (cond (member x q.ain) (found q) (onto_ain x (b i))))

access-sound : (slots : ℕ) (q : Queues) (x : ℕ) → Sound (of_queues slots q) → Sound (of_queues slots (access slots q x).queues)
access-sound slots q x s =
    let c = (kept-sound (of_queues slots q) s).counted in
    let st : Standing two_q (of_queues slots q) c.0 = record { resident = c.3; size = sym c.2 } in
    let d = printed.accesses slots q c.0 x 0 s st in
    subst Sound d.lists d.sound

pub run-all : (slots : ℕ) (r : Run) (xs : List ℕ) → Sound (of_queues slots r.queues) → run_among slots r (map unheld xs) ≡ run_from slots r xs
run-all slots r [] s = refl
run-all slots r (x ∷ xs) s =
    ap (λ (a : Accessed). run_among slots (tallied r a) (map unheld xs)) (access-all slots r.queues x s)
    ∙ run-all slots (tallied r (access slots r.queues x)) xs (access-sound slots r.queues x s)

pub outcomes-all : (slots : ℕ) (q : Queues) (xs : List ℕ) → Sound (of_queues slots q) → outcomes (access_among slots) q (map unheld xs) ≡ outcomes (access slots) q xs
outcomes-all slots q [] s = refl
outcomes-all slots q (x ∷ xs) s =
    ap (λ (a : Accessed). came_to a ∷ outcomes (access_among slots) a.queues (map unheld xs)) (access-all slots q x s)
    ∙ ap (λ (os : List Outcome). came_to (access slots q x) ∷ os) (outcomes-all slots (access slots q x).queues xs (access-sound slots q x s))
