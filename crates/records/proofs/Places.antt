-- The places of a page, cut into records.
use Rattle.std.proofs.Common.{◌≡◌, ℕ, zero, suc, ◌+◌, ◌*◌, ◌<◌, ◌≤◌, ltb, List, get_or, take, drop, Some, None, Option, Bor, IfSome, MatchOption, is_some, sym, ap, ◌∙◌, arith}
use borrow.Author.Tests.{ltb-true, ltb-false}
use Rattle.std.specs.Option.{option_copied}
use Rattle.std.specs.Simd.{first_chunks}
use Rattle.std.proofs.lemmas.List.{drop-drop}
use Rattle.std.proofs.lemmas.Bool.{cond-true, cond-false, lt-ltb, le-ltb}
use Rattle.records.specs.Layout.{record_in, place_of}

pub chunk_at : (n k : ℕ) (xs : List ℕ) (i : ℕ) (d : List ℕ) → i < k → get_or (first_chunks n k xs) i d ≡ take n (drop (i * n) xs)
chunk_at n zero xs i d h = absurd (omega arith)
chunk_at n (suc k) xs zero d h = let e : 0 ≡ 0 * n = omega arith in ap (λ m. take n (drop m xs)) e
chunk_at n (suc k) xs (suc i) d h =
    let e : n + i * n ≡ suc i * n = omega arith in
    chunk_at n k (drop n xs) i d (omega arith) ∙ ap (take n) (drop-drop (i * n) n xs ∙ ap (λ m. drop m xs) e)

-- What a look at one of 16 records gives.
pub placed : (page : List ℕ) (k : ℕ) (o : Option (Bor (List ℕ))) → is_some o ≡ ltb k 16 → IfSome o (λ x. x.now ≡ get_or (first_chunks 32 16 page) k x.now) → (option_copied o ≡ place_of page k) × MatchOption (option_copied o) (16 ≤ k) (λ bytes. (k < 16) × (bytes ≡ record_in page k))
placed page k None t e =
    let m : 16 ≤ k = ltb-false k 16 (sym t) in
    (sym (cond-false _ (Some (record_in page k)) None (le-ltb k 16 m)), m)
placed page k (Some x) t e =
    let m : k < 16 = ltb-true k 16 (sym t) in
    let r = e ∙ chunk_at 32 16 page k x.now m in
    (ap Some r ∙ sym (cond-true _ (Some (record_in page k)) None (lt-ltb k 16 m)), (m, r))
