-- The order in which pages are to leave.
use Rattle.std.proofs.Common.{◌≡◌, ◌<◌, ◌≤◌, true, false, eqb, ◌⊎◌, Some, None, Option, sym, refl, inl, inr, ⊎_elim, arith}
use Rattle.std.proofs.lemmas.Bool.{eqb-true, eqb-false, ltb-true, ltb-false}
use Rattle.blocks.specs.declared.block.Block.{Block}
use Rattle.blocks.specs.Blocks.{before, lesser}
use Rattle.blocks.specs.First.{NoLater}
use Rattle.recency.proofs.Pages.{by_bool}

pub same : (a : Block) → NoLater a a
same a = inr (refl, inr (refl, omega arith))

pub then : (a b c : Block) → NoLater a b → NoLater b c → NoLater a c
then a b c x y =
    ⊎_elim
    (λ h. ⊎_elim (λ k. inl (omega arith)) (λ k. let e = k.0 in inl (omega arith)) y)
    (λ h. ⊎_elim (λ k. let e = h.0 in inl (omega arith)) (λ k. let e = h.0 in let f = k.0 in inr (omega arith, last h.1 k.1)) y)
    x
  where
    Rest : Block → Block → Type 0
    Rest u v = (u.last < v.last) ⊎ ((u.last ≡ v.last) × (u.page ≤ v.page))

    last : Rest a b → Rest b c → Rest a c
    last p q =
        ⊎_elim
        (λ h. ⊎_elim (λ k. inl (omega arith)) (λ k. let e = k.0 in inl (omega arith)) q)
        (λ h. ⊎_elim (λ k. let e = h.0 in inl (omega arith)) (λ k. let e = h.0 in let f = k.0 in let i = h.1 in let j = k.1 in inr (omega arith, omega arith)) q)
        p

pub sooner : (a b : Block) → before a b ≡ true → NoLater a b
sooner a b h =
    by_bool (eqb a.hist2 b.hist2)
    (λ e. let f = eqb-true _ _ e in
    by_bool (eqb a.last b.last)
    (λ u. let g = eqb-true _ _ u in let w = ltb-true _ _ (rw (e, u) at h) in inr (f, inr (g, omega arith)))
    (λ u. inr (f, inl (ltb-true _ _ (rw (e, u) at h)))))
    (λ e. inl (ltb-true _ _ (rw e at h)))

pub no_sooner : (a b : Block) → before a b ≡ false → NoLater b a
no_sooner a b h =
    by_bool (eqb a.hist2 b.hist2)
    (λ e. let f = eqb-true _ _ e in
    by_bool (eqb a.last b.last)
    (λ u. let g = eqb-true _ _ u in inr (sym f, inr (sym g, ltb-false _ _ (rw (e, u) at h))))
    (λ u. let n = eqb-false _ _ u in let w = ltb-false _ _ (rw (e, u) at h) in inr (sym f, inl (omega arith))))
    (λ e. let n = eqb-false _ _ e in let w = ltb-false _ _ (rw e at h) in inl (omega arith))

-- the lesser of two blocks is one of them, and is to leave no later than either
pub lesser-new : (o : Option Block) (b : Block) → NoLater (lesser o b) b
lesser-new None b = same b
lesser-new (Some a) b = by_bool (before b a) (λ e. rw e (same b)) (λ e. rw e (no_sooner b a e))

pub lesser-old : (a b : Block) → NoLater (lesser (Some a) b) a
lesser-old a b = by_bool (before b a) (λ e. rw e (sooner b a e)) (λ e. rw e (same a))

pub lesser-one : (o : Option Block) (b : Block) → (b ≡ lesser o b) ⊎ (o ≡ Some (lesser o b))
lesser-one None b = inl refl
lesser-one (Some a) b = by_bool (before b a) (λ e. inl (rw e)) (λ e. inr (rw e))
