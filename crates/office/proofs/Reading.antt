-- Reading numbers.
use Rattle.std.proofs.Common.{◌≡◌, ℕ, ◌+◌, ◌<◌, ◌≤◌, List, [], ◌∷◌, ◌++◌, length, get_or, take, drop, Some, None, fold, Option, sym, refl, ap, ◌∙◌}
use Rattle.std.proofs.lemmas.List.{take_all, take-append-drop}
use Rattle.std.proofs.lemmas.List.Sums.{fold_more}
use Rattle.office.specs.Numbers.{digit_added, digit_more, number_in}

-- One digit more.
pub digit_then : (ds : List ℕ) (i n : ℕ) (r : Option ℕ) → i < length ds → Some n ≡ fold digit_more (Some 0) (take i ds) → r ≡ digit_added n (get_or ds i 0) → r ≡ fold digit_more (Some 0) (take (i + 1) ds)
digit_then ds i n r h e f = f ∙ ap (λ x. digit_more x (get_or ds i 0)) e ∙ sym (fold_more digit_more (Some 0) ds i 0 h)

some_digits : (ds : List ℕ) → (length ds ≡ 0 → ⊥) → fold digit_more (Some 0) ds ≡ number_in ds
some_digits [] h = absurd (h refl)
some_digits (c ∷ cs) h = refl

-- After a byte that is no digit, or too large a number, there is none.
none-more : (cs : List ℕ) → fold digit_more None cs ≡ None
none-more [] = refl
none-more (c ∷ cs) = none-more cs

fold-both : (o : Option ℕ) (xs ys : List ℕ) → fold digit_more o (xs ++ ys) ≡ fold digit_more (fold digit_more o xs) ys
fold-both o [] ys = refl
fold-both o (x ∷ xs) ys = fold-both (digit_more o x) xs ys

pub no_number : (ds : List ℕ) (i : ℕ) → (length ds ≡ 0 → ⊥) → None ≡ fold digit_more (Some 0) (take i ds) → None ≡ number_in ds
no_number ds i some e =
    sym (none-more (drop i ds))
    ∙ ap (λ o. fold digit_more o (drop i ds)) e
    ∙ sym (fold-both (Some 0) (take i ds) (drop i ds))
    ∙ ap (fold digit_more (Some 0)) (take-append-drop i ds)
    ∙ some_digits ds some

pub digits_all : (ds : List ℕ) (i n : ℕ) → (length ds ≡ 0 → ⊥) → length ds ≤ i → Some n ≡ fold digit_more (Some 0) (take i ds) → Some n ≡ number_in ds
digits_all ds i n some h e = e ∙ ap (fold digit_more (Some 0)) (take_all i ds h) ∙ some_digits ds some
