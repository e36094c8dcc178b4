-- The choice is what it is called.
use Rattle.std.proofs.Common.{◌≡◌, ℕ, ◌-◌, Bool, true, cond, eqb, List, [], ◌∷◌, Some, None, Option, sym, refl, ap, ◌∙◌, subst, inl, inr, ⊎_elim, arith}
use Rattle.std.specs.Option.{option_map, option_or}
use Rattle.std.proofs.lemmas.Bool.{false≢true, eqb-true, eq-eqb, ltb-true, lt-ltb}
use Rattle.std.proofs.lemmas.Bool.Decides.{nat_tests}
use Rattle.policy.specs.Sets.{member, Chosen}
use Rattle.blocks.specs.declared.block.Block.{Block}
use Rattle.blocks.specs.Blocks.{pages, found, allowed, candidate, outside}
use Rattle.blocks.specs.First.{Among, FirstOf}
use Rattle.recency.proofs.Pages.{by_bool}
use Rattle.blocks.proofs.Scans.{none_yet, scan-first}
use Rattle.lru_two.specs.Model.{Model, resident, chosen}
use Rattle.lru_two.specs.Choice.{Rival, Outside, Choice}
use Rattle.lru_two.proofs.Laws.{held}

-- what a candidate is
listed-part : (l : List ℕ) (o : Option ℕ) (t : ℕ) (b : Block) → candidate l o t b ≡ true → (member b.page l ≡ true) × (allowed o t b ≡ true)
listed-part l o t b h = by_bool (member b.page l) (λ e. (e, rw e at h)) (λ e. absurd (false≢true (rw e at h)))

module _ (m : Model) (l : List ℕ) (t : ℕ) where
  abbrev Over : Option ℕ → Block → Type 0
  Over o c = Among c m.blocks × (candidate l o t c ≡ true)

  to_rival : (o : Option ℕ) (b : Block) → Over o b → Rival m l b × (allowed o t b ≡ true)
  to_rival o b h = let q = listed-part l o t b h.1 in (record { among = h.0; named = q.0 }, q.1)

  from_rival : (o : Option ℕ) (b : Block) → Rival m l b → allowed o t b ≡ true → Over o b
  from_rival o b r a = (r.among, rw r.named a)

  is_outside : (b : Block) → outside m.crp t b ≡ true → Outside m t b
  is_outside b h = ltb-true m.crp (t - b.last) h

  outside_is : (b : Block) → Outside m t b → outside m.crp t b ≡ true
  outside_is b h = lt-ltb m.crp (t - b.last) h

  choose_law : (o u : Option Block) → FirstOf (Over (Some m.crp)) o → FirstOf (Over None) u → Choice m l t (option_map (λ (b : Block). b.page) (option_or o u))
  choose_law (Some b) u f g = inl (record {
    block = b;
    is = refl;
    first = record {
      one = (let r = to_rival (Some m.crp) b f.one in (r.0, is_outside b r.1));
      first = λ c h. f.first c (from_rival (Some m.crp) c h.0 (outside_is c h.1));
    };
  })
  choose_law None (Some b) f g = inr (
    λ c r h. f c (from_rival (Some m.crp) c r (outside_is c h)),
    record {
      block = b;
      is = refl;
      first = record { one = (to_rival None b g.one).0; first = λ c r. g.first c (from_rival None c r refl) };
    },
  )
  choose_law None None f g = λ c r. g c (from_rival None c r refl)

  pub choice : Choice m l t (chosen m l t)
  choice = choose_law _ _ (scan-first (candidate l (Some m.crp) t) m.blocks) (scan-first (candidate l None t) m.blocks)

among-member : (b : Block) (bs : List Block) → Among b bs → member b.page (pages bs) ≡ true
among-member b [] h = absurd h
among-member b (x ∷ bs) h =
    ⊎_elim
    (λ e. ap (λ (t : Bool). cond t true (member b.page (pages bs))) (eq-eqb x.page b.page (ap (λ (y : Block). y.page) e)))
    (λ k. let i = among-member b bs k in grind (arith, nat_tests))
    h

found_among : (q : ℕ) (bs : List Block) (b : Block) → found q bs ≡ Some b → Among b bs × (b.page ≡ q)
found_among q [] b h = absurd (none_yet b h)
found_among q (x ∷ bs) b h =
    by_bool (eqb x.page q)
    (λ e. let s : Some x ≡ Some b = rw e at h in let u : x ≡ b = cc in (inl u, sym (ap (λ (y : Block). y.page) u) ∙ eqb-true x.page q e))
    (λ e. let r = found_among q bs b (rw e at h) in (inr r.0, r.1))

-- a choice is a listed resident page, or none where no listed page is resident
pub choice-right : (m : Model) (l : List ℕ) (t : ℕ) (o : Option ℕ) → Choice m l t o → Chosen (resident m) l o
choice-right m l t None h = λ q e. by_bool (resident m q) (λ r. absurd (at q e (held m q r))) (λ r. r)
  where
    at : (q : ℕ) → member q l ≡ true → (b : Block) × (found q m.blocks ≡ Some b) → ⊥
    at q e f = let k = found_among q m.blocks f.0 f.1 in h f.0 (record { among = k.0; named = ap (λ (p : ℕ). member p l) k.1 ∙ e })
choice-right m l t (Some p) h = ⊎_elim (λ k. of k.block k.is k.first.one.0) (λ k. of k.1.block k.1.is k.1.first.one) h
  where
    of : (b : Block) → b.page ≡ p → Rival m l b → (member p l ≡ true) × (resident m p ≡ true)
    of b e r = (subst (λ (q : ℕ). member q l ≡ true) e r.named, subst (λ (q : ℕ). resident m q ≡ true) e (among-member b m.blocks r.among))
