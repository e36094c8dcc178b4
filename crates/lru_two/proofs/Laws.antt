-- What the calls leave of the set of resident pages and its size.
use Rattle.std.proofs.Common.{◌≡◌, ℕ, ◌+◌, ◌<◌, ◌≤◌, Bool, true, false, cond, eqb, List, [], ◌∷◌, length, is_some, Some, None, Option, sym, refl, ap, ◌∙◌, arith, eqb-true}
use Rattle.std.proofs.lemmas.Bool.{false≢true}
use Rattle.policy.specs.Sets.{member, distinct, entered, grown}
use Rattle.blocks.specs.declared.block.Block.{Block}
use Rattle.blocks.specs.Blocks.{pages, found, less, renewed, refreshed}
use Rattle.lru_two.specs.Model.{Model, resident, size, touched, forgotten, dropped, gone, admitted}
use Rattle.recency.proofs.Pages.{by_bool, has_record, Nowhere, nowhere, length-less, length-renewed, member-less}
use Rattle.policy.proofs.Counts.{out-distinct}
use Rattle.blocks.proofs.Counts.{pages-renewed, same-page}
use Rattle.policy.proofs.Admissions.{Leaves, turned}

abbrev pub key : Block → ℕ
key b = b.page

-- models with equal lists are equal
pub models : {b crp : ℕ} {xs xs' ys ys' : List Block} → xs ≡ xs' → ys ≡ ys' → ◌≡◌ {A = Model} (record { bound = b; crp = crp; blocks = xs; retained = ys }) (record { bound = b; crp = crp; blocks = xs'; retained = ys' })
models {b} {crp} e f = λ j. record { bound = b; crp = crp; blocks = e j; retained = f j }

-- a hit leaves the resident set and its size as they are
pub touched-resident : (m : Model) (p t r : ℕ) → resident (touched m p t) r ≡ resident m r
touched-resident m p t r = ap (member r) (pages-renewed (refreshed m.crp t) (same-page m.crp t) p m.blocks)

pub touched-size : (m : Model) (p t : ℕ) → size (touched m p t) ≡ size m
touched-size m p t = length-renewed key (refreshed m.crp t) p m.blocks

-- a resident page has a block
pub held : (m : Model) (q : ℕ) → resident m q ≡ true → (b : Block) × (found q m.blocks ≡ Some b)
held m q e = step (found q m.blocks) refl (has_record key q m.blocks ∙ e)
  where
    step : (o : Option Block) → found q m.blocks ≡ o → is_some o ≡ true → (b : Block) × (found q m.blocks ≡ Some b)
    step None h s = absurd (false≢true s)
    step (Some b) h s = (b, h)

pub gone-blocks : (m : Model) (q : ℕ) → resident m q ≡ true → (gone m (Some q)).blocks ≡ less q m.blocks
gone-blocks m q e = ap (λ (o : Option Block). (dropped m q o).blocks) (held m q e).1

dropped-bound : (m : Model) (q : ℕ) (o : Option Block) → (dropped m q o).bound ≡ m.bound
dropped-bound m q None = refl
dropped-bound m q (Some b) = refl

pub gone-bound : (m : Model) (q : ℕ) → (gone m (Some q)).bound ≡ m.bound
gone-bound m q = dropped-bound m q (found q m.blocks)

-- after a resident page has left there is a place free, and no page has come in
pub gone-size : (m : Model) (q : ℕ) → resident m q ≡ true → size (gone m (Some q)) + 1 ≡ size m
gone-size m q e = ap (λ (bs : List Block). length bs + 1) (gone-blocks m q e) ∙ length-less key q m.blocks e

pub gone-absent : (m : Model) (q p : ℕ) → resident m q ≡ true → resident m p ≡ false → resident (gone m (Some q)) p ≡ false
gone-absent m q p e r = ap (λ (bs : List Block). member p (pages bs)) (gone-blocks m q e) ∙ member-less key p q m.blocks r

-- an admission puts the page in and the leaving one out
pub none-resident : (m : Model) (p t r : ℕ) → resident (admitted m p None t) r ≡ entered (resident m) p None r
none-resident m p t r = rw (turned p r)

pub some-resident : (m : Model) (p g t r : ℕ) → distinct (pages m.blocks) ≡ true → resident m g ≡ true → resident (admitted m p (Some g) t) r ≡ entered (resident m) p (Some g) r
some-resident m p g t r h e =
    ap (λ (bs : List Block). cond (eqb p r) true (member r (pages bs))) (gone-blocks (forgotten m p) g e)
    ∙ ap (λ (b : Bool). cond (eqb p r) true b) (out-distinct key g r m.blocks h)
    ∙ rw (turned p r, turned g r)

pub none-size : (m : Model) (p t : ℕ) → size (admitted m p None t) ≡ grown (size m) None
none-size m p t = omega arith

pub some_size : (m : Model) (p g t : ℕ) → resident m g ≡ true → size (admitted m p (Some g) t) ≡ grown (size m) (Some g)
some_size m p g t e = let h = gone-size (forgotten m p) g e in omega arith

pub some-bound : (m : Model) (p g t : ℕ) → (admitted m p (Some g) t).bound ≡ m.bound
some-bound m p g t = gone-bound (forgotten m p) g

-- the same of a leaving page or none
pub room-after : (m : Model) (l : Option ℕ) → Leaves (resident m) (size m) m.bound l → size m ≤ m.bound → size (gone m l) < (gone m l).bound
room-after m None h f = h
room-after m (Some q) h f = let b = gone-bound m q in let r = gone-size m q h in omega arith

pub absent-after : (m : Model) (l : Option ℕ) (p : ℕ) → Leaves (resident m) (size m) m.bound l → resident m p ≡ false → resident (gone m l) p ≡ false
absent-after m None p h r = r
absent-after m (Some q) p h r = gone-absent m q p h r

pub admitted-resident : (m : Model) (p t : ℕ) (l : Option ℕ) → distinct (pages m.blocks) ≡ true → Leaves (resident m) (size m) m.bound l → (r : ℕ) → resident (admitted m p l t) r ≡ entered (resident m) p l r
admitted-resident m p t None d h r = none-resident m p t r
admitted-resident m p t (Some q) d h r = some-resident m p q t r d h

pub admitted-size : (m : Model) (p t : ℕ) (l : Option ℕ) → Leaves (resident m) (size m) m.bound l → size (admitted m p l t) ≡ grown (size m) l
admitted-size m p t None h = none-size m p t
admitted-size m p t (Some q) h = some_size m p q t h

-- the block of a page made anew in its place
renewed-by : (f : Block → Block) (p : ℕ) (bs : List Block) (b : Block) → found p bs ≡ Some b → renewed (λ _. f b) p bs ≡ renewed f p bs
renewed-by f p [] b e = refl
renewed-by f p (x ∷ bs) b e =
    by_bool (eqb x.page p)
    (λ t. let s : Some x ≡ Some b = rw t at e in let u : x ≡ b = cc in rw t (ap (λ (y : Block). f y ∷ bs) (sym u)))
    (λ t. rw t (ap (λ (l : List Block). x ∷ l) (renewed-by f p bs b (rw t at e))))

found-page : (p : ℕ) (bs : List Block) (b : Block) → found p bs ≡ Some b → b.page ≡ p
found-page p [] b e = let z : ◌≡◌ {A = ℕ} 0 1 = cc in absurd (omega arith)
found-page p (x ∷ bs) b e =
    by_bool (eqb x.page p)
    (λ t. let s : Some x ≡ Some b = rw t at e in let u : x ≡ b = cc in sym (ap (λ (y : Block). y.page) u) ∙ eqb-true x.page p t)
    (λ t. found-page p bs b (rw t at e))

-- a block that is replaced by what a hit makes of it
pub replaced-by : (m : Model) (p t : ℕ) (b b' : Block) → found p m.blocks ≡ Some b → b' ≡ refreshed m.crp t b → renewed (λ _. b') b'.page m.blocks ≡ renewed (refreshed m.crp t) p m.blocks
replaced-by m p t b b' e f =
    let k : b'.page ≡ p = ap (λ (y : Block). y.page) f ∙ same-page m.crp t b ∙ found-page p m.blocks b e in
    (λ i. renewed (λ _. f i) (k i) m.blocks) ∙ renewed-by (refreshed m.crp t) p m.blocks b e

pub not-found : (p : ℕ) (bs : List Block) → found p bs ≡ None → Nowhere key p bs
not-found p bs e = nowhere key p bs (sym (has_record key p bs) ∙ ap is_some e)
