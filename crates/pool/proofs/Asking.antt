-- The questions of a fix.
use Rattle.std.proofs.Common.{◌≡◌, ℕ, zero, suc, ◌<◌, ◌≤◌, Bool, ◌||◌, ltb, List, [], ◌∷◌, ◌++◌, Some, None, Option, refl, ap, ◌∙◌, arith}
use Rattle.std.proofs.lemmas.Bool.{ltb-true, lt-ltb, le-ltb}
use Rattle.page.specs.declared.refusal.Refusal.{Refusal}
use Rattle.page.specs.declared.refusal.Refusal.TheVariants.{PageFull, NoFrame}
use Rattle.device.specs.Row.{Page, sound, worn, lost}
use Rattle.book.specs.Book.{Book, by_kind, grants, held, is_not_lost, is_not_worn, first_no, refusal, ◌otherwise◌}
use Rattle.book.specs.Call.Call.{Fix}
use Rattle.book.specs.declared.grant.Kind.{Kind}
use Rattle.book.proofs.Asked.{first-yes, yes as is-yes}
use Rattle.frames.specs.Table.{Frame}
use Rattle.pool.specs.Meaning.{shown}
use Rattle.pool.specs.Steps.{early}

-- The first no of two lists of questions.
pub first_then : (xs ys : List (Option Refusal)) → first_no xs ≡ None → first_no (xs ++ ys) ≡ first_no ys
first_then [] ys h = refl
first_then (None ∷ xs) ys h = first_then xs ys h
first_then (Some r ∷ xs) ys h = let z : ◌≡◌ {A = ℕ} 0 1 = cc in absurd (omega arith)

pub first_some : (xs ys : List (Option Refusal)) (r : Refusal) → first_no xs ≡ Some r → first_no (xs ++ ys) ≡ Some r
first_some [] ys r h = let z : ◌≡◌ {A = ℕ} 0 1 = cc in absurd (omega arith)
first_some (None ∷ xs) ys r h = first_some xs ys r h
first_some (Some s ∷ xs) ys r h = h

-- What the first questions of a fix found.
pub record Early (b : Book) (kind : Kind) (page : ℕ) : Type 0 where
  pub there : page < b.size
  pub not_lost : is_not_lost (b.pages page) ≡ None
  pub not_worn : by_kind kind None (is_not_worn (b.pages page)) ≡ None
  pub time : b.clock < 4294967295

pub early-found : (b : Book) (kind : Kind) (page : ℕ) → first_no (early b kind page) ≡ None → Early b kind page
early-found b kind page h =
    let q2 = first-yes _ _ h in
    let q3 = first-yes _ _ q2.1 in
    let q4 = first-yes _ _ q3.1 in
    record { there = ltb-true page b.size (is-yes _ _ q2.0); not_lost = q3.0; not_worn = q4.0; time = ltb-true b.clock 4294967295 (is-yes _ _ (first-yes _ _ q4.1).0) }

-- A page that is in a frame is lost or worn as it is below.
pub lost-shown : (f : Option Frame) (o : Option Page) → is_not_lost (shown f o) ≡ is_not_lost o
lost-shown None o = refl
lost-shown (Some f) None = refl
lost-shown (Some f) (Some (sound bs)) = refl
lost-shown (Some f) (Some (worn x bs)) = refl
lost-shown (Some f) (Some (lost x)) = refl

pub worn-shown : (f : Option Frame) (o : Option Page) → is_not_worn (shown f o) ≡ is_not_worn o
worn-shown None o = refl
worn-shown (Some f) None = refl
worn-shown (Some f) (Some (sound bs)) = refl
worn-shown (Some f) (Some (worn x bs)) = refl
worn-shown (Some f) (Some (lost x)) = refl

-- The whole answer to a fix, by its last two questions.
module _ (b : Book) (kind : Kind) (page : ℕ) where
  pub early_no : (r : Refusal) → first_no (early b kind page) ≡ Some r → refusal b (Fix kind page) ≡ Some r
  early_no r h = first_some (early b kind page) _ r h

  module _ (h : first_no (early b kind page) ≡ None) where
    pub full_no : 255 ≤ grants b page → refusal b (Fix kind page) ≡ Some PageFull
    full_no l =
        first_then (early b kind page) _ h
        ∙ ap (λ (t : Bool). first_no ((t otherwise PageFull) ∷ ((ltb 0 (grants b page) || ltb (held b) b.bound) otherwise NoFrame) ∷ [])) (le-ltb (grants b page) 255 l)

    few : grants b page < 255 → refusal b (Fix kind page) ≡ first_no (((ltb 0 (grants b page) || ltb (held b) b.bound) otherwise NoFrame) ∷ [])
    few l =
        first_then (early b kind page) _ h
        ∙ ap (λ (t : Bool). first_no ((t otherwise PageFull) ∷ ((ltb 0 (grants b page) || ltb (held b) b.bound) otherwise NoFrame) ∷ [])) (lt-ltb (grants b page) 255 l)

    pub room_no : grants b page ≡ 0 → b.bound ≤ held b → refusal b (Fix kind page) ≡ Some NoFrame
    room_no z l =
        few (omega arith)
        ∙ ap (λ (t : Bool). first_no (((t || ltb (held b) b.bound) otherwise NoFrame) ∷ [])) (le-ltb 0 (grants b page) (none (grants b page) z))
        ∙ ap (λ (t : Bool). first_no ((t otherwise NoFrame) ∷ [])) (le-ltb (held b) b.bound l)
      where
        none : (n : ℕ) → n ≡ 0 → n ≤ 0
        none n e = omega arith

    pub room-yes : grants b page ≡ 0 → held b < b.bound → refusal b (Fix kind page) ≡ None
    room-yes z l =
        few (omega arith)
        ∙ ap (λ (t : Bool). first_no (((t || ltb (held b) b.bound) otherwise NoFrame) ∷ [])) (le-ltb 0 (grants b page) (none (grants b page) z))
        ∙ ap (λ (t : Bool). first_no ((t otherwise NoFrame) ∷ [])) (lt-ltb (held b) b.bound l)
      where
        none : (n : ℕ) → n ≡ 0 → n ≤ 0
        none n e = omega arith

    -- a page in a frame may have none out
    pub seat_yes : grants b page < 255 → (grants b page ≡ 0 → held b < b.bound) → refusal b (Fix kind page) ≡ None
    seat_yes l room = go (grants b page) refl
      where
        above : (m n : ℕ) → m ≡ suc n → 0 < m
        above m n e = omega arith

        go : (n : ℕ) → grants b page ≡ n → refusal b (Fix kind page) ≡ None
        go zero e = room-yes e (room e)
        go (suc n) e =
            few l
            ∙ ap (λ (t : Bool). first_no (((t || ltb (held b) b.bound) otherwise NoFrame) ∷ [])) (lt-ltb 0 (grants b page) (above (grants b page) n e))
