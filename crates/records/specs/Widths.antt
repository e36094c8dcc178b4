-- What the laws of the fields of a record rest on.
use Rattle.std.proofs.Common.{◌≡◌, ℕ, zero, suc, ◌+◌, ◌*◌, ◌/◌, ◌%◌, ◌^◌, ◌<◌, ◌≤◌, List, [], ◌∷◌, ◌++◌, length, take, drop, sym, refl, ap, ◌∙◌, subst, pow-suc, arith, lit<, length-drop, length-take}
use Rattle.std.specs.Int.Digits.{AllBelowBase}
use Rattle.std.proofs.ByRecursion.{All-take, All-drop}
use Rattle.std.proofs.lemmas.List.{take-append-drop, drop-drop}
use Rattle.records.specs.Little.{bytes_of, number_of, field}

-- A number that fits w bytes is read back from them.
pub number-bytes : (w n : ℕ) → n < 256 ^ w → number_of (bytes_of w n) ≡ n
number-bytes zero n h = omega arith
number-bytes (suc w) n h =
    let m : n < 256 ^ w * 256 = rw pow-suc at h in
    let e : number_of (bytes_of w (n / 256)) ≡ n / 256 = number-bytes w (n / 256) (omega arith) in
    omega arith

-- Bytes are written back from the number that they write.
pub bytes-number : (bs : List ℕ) → AllBelowBase 256 bs → bytes_of (length bs) (number_of bs) ≡ bs
bytes-number [] u = refl
bytes-number (b ∷ bs) u =
    let h : b < 256 = u.0 in
    let m : (b + 256 * number_of bs) % 256 ≡ b = omega arith in
    let d : (b + 256 * number_of bs) / 256 ≡ number_of bs = omega arith in
    rw (m, d, bytes-number bs u.1)

-- A number of n bytes is below 256 ^ n.
number_small : (bs : List ℕ) → AllBelowBase 256 bs → number_of bs < 256 ^ length bs
number_small [] u = lit< tt
number_small (b ∷ bs) u =
    let h : b < 256 = u.0 in
    let k : number_of bs < 256 ^ length bs = number_small bs u.1 in
    rw pow-suc (omega arith)

module _ (bs : List ℕ) (under : AllBelowBase 256 bs) where
  part : (at w : ℕ) → AllBelowBase 256 (take w (drop at bs))
  part at w = All-take (λ b. b < 256) w (drop at bs) (All-drop (λ b. b < 256) at bs under)

  -- A field of a list of bytes is written back.
  field-bytes : (at w : ℕ) → at + w ≤ length bs → bytes_of w (field at w bs) ≡ take w (drop at bs)
  field-bytes at w h =
      let l : length (take w (drop at bs)) ≡ w = simp (length-take, length-drop) (omega arith) in
      ap (λ n. bytes_of n (field at w bs)) (sym l)
      ∙ bytes-number (take w (drop at bs)) (part at w)

  -- A field in front of what follows it.
  pub field-more : (at w : ℕ) (rest : List ℕ) → at + w ≤ length bs → rest ≡ drop (at + w) bs → bytes_of w (field at w bs) ++ rest ≡ drop at bs
  field-more at w rest h e =
      ap (λ xs. xs ++ rest) (field-bytes at w h)
      ∙ ap (λ xs. take w (drop at bs) ++ xs) (e ∙ sym (drop-drop w at bs))
      ∙ take-append-drop w (drop at bs)

  pub field_small : (at w : ℕ) → at + w ≤ length bs → field at w bs < 256 ^ w
  field_small at w h =
      let l : length (take w (drop at bs)) ≡ w = simp (length-take, length-drop) (omega arith) in
      subst (λ n. field at w bs < 256 ^ n) l (number_small (take w (drop at bs)) (part at w))

-- A number in w bytes has so many, each below 256.
pub length-bytes : (w n : ℕ) → length (bytes_of w n) ≡ w
length-bytes zero n = refl
length-bytes (suc w) n = ap suc (length-bytes w (n / 256))

pub under-bytes : (w n : ℕ) → AllBelowBase 256 (bytes_of w n)
under-bytes zero n = tt
under-bytes (suc w) n = (omega arith, under-bytes w (n / 256))
