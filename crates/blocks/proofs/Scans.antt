-- What the scan finds.
use Rattle.std.proofs.Common.{◌≡◌, ℕ, Bool, true, false, ◌⊎◌, List, [], ◌∷◌, Some, None, Option, sym, refl, ap, ◌∙◌, subst, inl, inr, ⊎_elim, arith}
use Rattle.std.specs.List.{fold, filter}
use Rattle.std.proofs.lemmas.Bool.{false≢true}
use Rattle.blocks.specs.declared.block.Block.{Block}
use Rattle.blocks.specs.Blocks.{lesser, scanned}
use Rattle.blocks.specs.First.{Among, NoLater, FirstOf, FirstAmong}
use Rattle.recency.proofs.Pages.{by_bool}
use Rattle.blocks.proofs.Order.{same, then, lesser-new, lesser-old, lesser-one}

-- what a scan goes over: the best so far, and the candidates that are to come
abbrev From : (Block → Bool) → Option Block → List Block → Block → Type 0
From ok best bs c = (best ≡ Some c) ⊎ (Among c bs × (ok c ≡ true))

-- a scan over more blocks, of which each new one is beaten by an old one
wider : (P Q : Block → Type 0) (r : Option Block) → FirstOf P r → ((c : Block) → P c → Q c) → ((c : Block) → Q c → (d : Block) × P d × NoLater d c) → FirstOf Q r
wider P Q None h up down = λ c q. h (down c q).0 (down c q).1
wider P Q (Some b) h up down = record {
  one = up b h.one;
  first = λ c q. let d = down c q in then b d.0 c (h.first d.0 d.1) d.2;
}

scan_law : (ok : Block → Bool) (best : Option Block) (bs : List Block) → FirstOf (From ok best bs) (scanned ok best bs)
scan_law ok None [] = λ c f. ⊎_elim (λ e. let z : ◌≡◌ {A = ℕ} 0 1 = cc in absurd (omega arith)) (λ x. x.0) f
scan_law ok (Some b) [] = record {
  one = inl refl;
  first = λ c f. ⊎_elim (λ e. let s : b ≡ c = cc in subst (λ (x : Block). NoLater b x) s (same b)) (λ x. absurd x.0) f;
}
scan_law ok best (x ∷ xs) =
    by_bool (ok x)
    (λ e. rw e (wider (From ok (Some (lesser best x)) xs) (From ok best (x ∷ xs)) _ (scan_law ok (Some (lesser best x)) xs) (up e) (down e)))
    (λ e. rw e (wider (From ok best xs) (From ok best (x ∷ xs)) _ (scan_law ok best xs) skip (back e)))
  where
    up : ok x ≡ true → (c : Block) → From ok (Some (lesser best x)) xs c → From ok best (x ∷ xs) c
    up e c f =
        ⊎_elim
        (λ h. let s : lesser best x ≡ c = cc in
        ⊎_elim (λ k. let u : x ≡ c = k ∙ s in inr (inl u, subst (λ (y : Block). ok y ≡ true) u e)) (λ k. inl (k ∙ ap Some s)) (lesser-one best x))
        (λ h. inr (inr h.0, h.1))
        f

    old : (o : Option Block) (c : Block) → o ≡ Some c → NoLater (lesser o x) c
    old None c h = let z : ◌≡◌ {A = ℕ} 0 1 = cc in absurd (omega arith)
    old (Some a) c h = let s : a ≡ c = cc in subst (λ (y : Block). NoLater (lesser (Some a) x) y) s (lesser-old a x)

    down : ok x ≡ true → (c : Block) → From ok best (x ∷ xs) c → (d : Block) × From ok (Some (lesser best x)) xs d × NoLater d c
    down e c f =
        ⊎_elim
        (λ h. (lesser best x, inl refl, old best c h))
        (λ h. ⊎_elim (λ k. (lesser best x, inl refl, subst (λ (y : Block). NoLater (lesser best x) y) k (lesser-new best x))) (λ k. (c, inr (k, h.1), same c)) h.0)
        f

    skip : (c : Block) → From ok best xs c → From ok best (x ∷ xs) c
    skip c f = ⊎_elim (λ h. inl h) (λ h. inr (inr h.0, h.1)) f

    back : ok x ≡ false → (c : Block) → From ok best (x ∷ xs) c → (d : Block) × From ok best xs d × NoLater d c
    back e c f =
        ⊎_elim
        (λ h. (c, inl h, same c))
        (λ h. ⊎_elim (λ k. absurd (false≢true (sym e ∙ subst (λ (y : Block). ok y ≡ true) (sym k) h.1))) (λ k. (c, inr (k, h.1), same c)) h.0)
        f

pub none_yet : (c : Block) → None ≡ Some c → ⊥
none_yet c e = let z : ◌≡◌ {A = ℕ} 0 1 = cc in omega arith

-- a scan finds the first to leave of the blocks that pass the test
pub scan-first : (ok : Block → Bool) (bs : List Block) → FirstAmong bs ok (scanned ok None bs)
scan-first ok bs =
    wider (From ok None bs) (λ c. Among c bs × (ok c ≡ true)) _ (scan_law ok None bs)
    (λ c f. ⊎_elim (λ e. absurd (none_yet c e)) (λ h. h) f)
    (λ c h. (c, inr h, same c))

-- the scan as std folds it
pub scan_folds : (ok : Block → Bool) (best : Option Block) (bs : List Block) → fold (λ (o : Option Block) (b : Block). Some (lesser o b)) best (filter ok bs) ≡ scanned ok best bs
scan_folds ok best [] = refl
scan_folds ok best (b ∷ bs) = by_bool (ok b) (λ e. rw e (scan_folds ok (Some (lesser best b)) bs)) (λ e. rw e (scan_folds ok best bs))
