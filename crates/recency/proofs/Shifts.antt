-- What a rotation of a part of a slice leaves of its front.
use Rattle.std.proofs.Common.{◌≡◌, ℕ, zero, suc, ◌+◌, ◌-◌, ◌<◌, ◌≤◌, List, [], ◌∷◌, ◌++◌, length, take, drop, set, refl, ap, ◌∙◌, append_assoc, add-one, arith}
use Rattle.std.proofs.lemmas.List.{length-take, length-append, length-drop, drop-take, take-take, take_more_set, take_at, length-set, drop_at, drop_all, drop-drop, append-nil}
use Rattle.std.proofs.lemmas.Slice.{between_is}
use Rattle.recency.specs.Recent.{without, to_head}

one_front : {X : Type 0} (i n : ℕ) (xs : List X) → i < n → take 1 (drop i (take n xs)) ≡ take 1 (drop i xs)
one_front i zero xs h = absurd (omega arith)
one_front zero (suc n) [] h = refl
one_front zero (suc n) (x ∷ xs) h = refl
one_front (suc i) (suc n) [] h = refl
one_front (suc i) (suc n) (x ∷ xs) h = one_front i n xs (omega arith)

without_front : {X : Type 0} (i m : ℕ) (xs : List X) → i ≤ m → take m (without xs i) ≡ without (take (suc m) xs) i
without_front zero zero [] h = refl
without_front zero (suc m) [] h = refl
without_front zero m (x ∷ xs) h = refl
without_front (suc i) zero xs h = absurd (omega arith)
without_front (suc i) (suc m) [] h = refl
without_front (suc i) (suc m) (x ∷ xs) h = ap (λ t. x ∷ t) (without_front i m xs (omega arith))

one_more : {X : Type 0} (i m : ℕ) (xs zs : List X) → i < length xs → take (suc m) (take 1 (drop i xs) ++ zs) ≡ take 1 (drop i xs) ++ take m zs
one_more i m [] zs h = absurd (omega arith)
one_more zero m (x ∷ xs) zs h = refl
one_more (suc i) m (x ∷ xs) zs h = one_more i m xs zs (omega arith)

turned : {X : Type 0} (xs : List X) (n i : ℕ) → i < n → i < length xs
    → take n ((drop i (take (i + 1) xs) ++ take i (take (i + 1) xs)) ++ drop (i + 1) xs) ≡ to_head (take n xs) i
turned xs zero i h l = absurd (omega arith)
turned xs (suc m) i h l =
    let le : i ≤ i + 1 = omega arith in
    let lm : i ≤ m = omega arith in
    rw (drop-take i 1 xs, take-take i (i + 1) xs, append_assoc, add-one, one_more i m xs _ l, one_front i (suc m) xs, ← without_front i m xs lm)

-- after `s[0..i + 1].rotate_right(1)`
pub move_shift : {X : Type 0} (xs p ys : List X) (n m i : ℕ) → i < n → i < length xs → m ≡ i + 1 → p ≡ take m xs
    → ys ≡ drop (length p - 1) p ++ take (length p - 1) p → take n (ys ++ drop m xs) ≡ to_head (take n xs) i
move_shift xs p ys n m i h l em ep ey =
    let lp : length p - 1 ≡ i = omega (arith, ap length ep, length-take m xs) in
    rw (ey, lp, ep, em) (turned xs n i h l)

last_to_head : {X : Type 0} (a : List X) (x : X) → to_head (a ++ x ∷ []) (length a) ≡ x ∷ a
last_to_head a x =
    let l : length (a ++ x ∷ []) ≤ suc (length a) = simp length-append (omega arith) in
    rw (drop_at a (x ∷ []) (length a) refl, take_at a (x ∷ []) (length a) refl, drop_all (suc (length a)) (a ++ x ∷ []) l, append-nil)

-- after `s[n] = x; s[0..n + 1].rotate_right(1)`
pub put_shift : {X : Type 0} (xs p ys : List X) (n m : ℕ) (x : X) {a : List X} → n < length xs → m ≡ n + 1 → p ≡ take m (set xs n x)
    → ys ≡ drop (length p - 1) p ++ take (length p - 1) p → take n xs ≡ a → take (n + 1) (ys ++ drop m (set xs n x)) ≡ x ∷ a
put_shift xs p ys n m x {a} l em ep ey e =
    let l' : n < length (set xs n x) = simp length-set l in
    let la : length a ≡ n = omega (arith, ap length e, length-take n xs) in
    let w : take (n + 1) (set xs n x) ≡ a ++ x ∷ [] = take_more_set xs n x l ∙ ap (λ t. t ++ x ∷ []) e in
    move_shift (set xs n x) p ys (n + 1) m n (omega arith) l' em ep ey ∙ rw (w, ← la) (last_to_head a x)

-- after `s[i..n].rotate_left(1)`
pub take_shift : {X : Type 0} (xs q ys : List X) (n i : ℕ) → i < n → n ≤ length xs → q ≡ take (n - i) (drop i xs)
    → ys ≡ drop 1 q ++ take 1 q → take (n - 1) (take i xs ++ (ys ++ drop (n - i) (drop i xs))) ≡ without (take n xs) i
take_shift xs q ys n i h l eq ey =
    let r = drop (n - i) (drop i xs) in
    let lq : length q ≡ n - i = omega (arith, ap length eq, length-take (n - i) (drop i xs), length-drop i xs) in
    let k : length (take i xs ++ drop 1 q) ≡ n - 1 = omega (arith, length-append (take i xs) (drop 1 q), length-take i xs, length-drop 1 q) in
    let e : take i xs ++ (ys ++ r) ≡ (take i xs ++ drop 1 q) ++ (take 1 q ++ r) = rw ey (simp append_assoc) in
    let f : drop 1 q ≡ drop (suc i) (take n xs) = rw (eq, between_is xs i n, drop-drop 1 i (take n xs), add-one) in
    let t : take i (take n xs) ≡ take i xs = take-take i n xs (omega arith) in
    ap (take (n - 1)) e ∙ take_at (take i xs ++ drop 1 q) (take 1 q ++ r) (n - 1) k ∙ rw (f, t)
