-- Laws of lists without a record, and with one at the head.
use Rattle.std.proofs.Common.{◌≡◌, ℕ, zero, suc, ◌+◌, ◌<◌, ◌≤◌, min, List, [], ◌∷◌, ◌++◌, map, length, get_or, take, drop, Some, sym, ap, ◌∙◌, ⊎_elim, arith}
use Rattle.std.proofs.lemmas.List.Edits.{length-remove}
use Rattle.std.proofs.lemmas.List.{take_all, drop_all, append-nil, map-append, take-map, drop-map, get_or-take, length-take}
use Rattle.std.proofs.lemmas.Option.{slice_get-get_or}
use Rattle.std.proofs.lemmas.Bool.{cases_lt}
use Rattle.std.specs.List.{slice_get}
use Rattle.recency.specs.Recent.{without, to_head}

-- past the length nothing is altered
pub without-past : {X : Type 0} (xs : List X) (i : ℕ) → length xs ≤ i → without xs i ≡ xs
without-past xs i h =
    let h' : length xs ≤ suc i = omega arith in
    rw (take_all i xs, drop_all (suc i) xs, append-nil)

pub to_head_past : {X : Type 0} (xs : List X) (i : ℕ) → length xs ≤ i → to_head xs i ≡ xs
to_head_past xs i h = rw (drop_all i xs) (without-past xs i h)

pub length_without : {X : Type 0} (xs : List X) (i : ℕ) → i < length xs → length (without xs i) + 1 ≡ length xs
length_without xs i h = length-remove xs i h

-- a move takes a record out and puts it at the head
pub to_head_is : {X : Type 0} (xs : List X) (i : ℕ) (x : X) → slice_get xs i ≡ Some x → to_head xs i ≡ x ∷ without xs i
to_head_is [] i x h = let z : ◌≡◌ {A = ℕ} 0 1 = cc in absurd (omega arith)
to_head_is (y ∷ ys) zero x h = let e : y ≡ x = cc in ap (λ t. t ∷ ys) e
to_head_is (y ∷ ys) (suc i) x h = one ys i h
  where
    one : (zs : List _) (j : ℕ) → slice_get zs j ≡ Some x → take 1 (drop j zs) ++ without (y ∷ ys) (suc i) ≡ x ∷ without (y ∷ ys) (suc i)
    one [] j e = let z : ◌≡◌ {A = ℕ} 0 1 = cc in absurd (omega arith)
    one (w ∷ ws) zero e = let q : w ≡ x = cc in ap (λ t. t ∷ without (y ∷ ys) (suc i)) q
    one (w ∷ ws) (suc j) e = one ws j e

-- the page numbers of such a list
pub map-without : {X Y : Type 0} (f : X → Y) (xs : List X) (i : ℕ) → map f (without xs i) ≡ without (map f xs) i
map-without f xs i = rw (map-append f (take i xs) (drop (suc i) xs), take-map f i xs, drop-map f (suc i) xs)

pub map_to_head : {X Y : Type 0} (f : X → Y) (xs : List X) (i : ℕ) → map f (to_head xs i) ≡ to_head (map f xs) i
map_to_head f xs i = map-append f (take 1 (drop i xs)) (without xs i) ∙ rw (map-without f xs i, drop-map f i xs, take-map f 1 (drop i xs))

-- a length beyond the slice's is the slice's
pub take-cut : {X : Type 0} (n : ℕ) (xs : List X) → take (min n (length xs)) xs ≡ take n xs
take-cut n xs = ⊎_elim below above (cases_lt n (length xs))
  where
    below : n < length xs → take (min n (length xs)) xs ≡ take n xs
    below h = ap (λ m. take m xs) (omega arith)

    above : length xs ≤ n → take (min n (length xs)) xs ≡ take n xs
    above h = take_all (min n (length xs)) xs (omega arith) ∙ sym (take_all n xs h)

-- the record at a place of a slice, below the length of the list
pub nth_front : {X : Type 0} (xs : List X) (n i : ℕ) (d : X) → i < n → i < length xs → slice_get (take n xs) i ≡ Some (get_or xs i d)
nth_front xs n i d h l =
    let t : i < length (take n xs) = omega (arith, length-take n xs) in
    slice_get-get_or (take n xs) i d t ∙ ap Some (get_or-take n xs i d h)
