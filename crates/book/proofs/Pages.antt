-- What calls leave of the book's pages.
use Rattle.std.proofs.Common.{◌≡◌, ℕ, ◌+◌, ◌≤◌, Bool, true, false, cond, eqb, ◌⊎◌, List, [], ◌∷◌, ◌++◌, length, take, drop, is_some, Some, None, Option, sym, refl, ap, ◌∙◌, inl, inr, add-zero, arith, length-append, length-drop, take-append-drop, length-take, eqb-true}
use borrow.Author.Tests.{clash}
use Rattle.std.proofs.lemmas.List.{take_at, drop_at}
use Rattle.device.specs.Row.{Page, sound, worn, lost, state_at, over_at, written}
use Rattle.device.specs.Shape.{Whole}
use Rattle.device.proofs.Rows.{state-over, over-refused}
use Rattle.book.specs.Book.{Book, next, book_after}
use Rattle.book.specs.Bytes.{readable, writable, bytes_at, patched}
use Rattle.book.specs.Call.{Call}
use Rattle.book.specs.Call.Call.{Fix, Read, Write, Unfix, Flush, FlushAll, Close}
use Rattle.book.specs.PageLaws.{Wrote}
use Rattle.book.proofs.Asked.{changed, next_or, by_next}

-- a page that is written stays a page, and stays whole
pub some-over : (p : Option Page) (new : List ℕ) → is_some (over_at p new) ≡ is_some p
some-over None new = refl
some-over (Some p) new = refl

pub whole-over : (p : Option Page) (new : List ℕ) → length new ≡ 512 → Whole p → Whole (over_at p new)
whole-over None new e w = tt
whole-over (Some (sound bs)) new e w = e
whole-over (Some (worn o bs)) new e w = w
whole-over (Some (lost o)) new e w = tt

pub whole-bytes : (p : Option Page) → Whole p → readable p ≡ true → length (bytes_at p) ≡ 512
whole-bytes None w h = absurd (clash h)
whole-bytes (Some (sound bs)) w h = w
whole-bytes (Some (worn o bs)) w h = w
whole-bytes (Some (lost o)) w h = absurd (clash h)

pub writable-readable : (p : Option Page) → writable p ≡ true → readable p ≡ true
writable-readable None h = h
writable-readable (Some (sound bs)) h = h
writable-readable (Some (worn o bs)) h = refl
writable-readable (Some (lost o)) h = h

-- bytes patched: as many as before, the new ones in their place, and none altered by none
pub patched-long : (offset : ℕ) (new old : List ℕ) → offset + length new ≤ 512 → length old ≡ 512 → length (patched offset new old) ≡ 512
patched-long offset new old l e = simp (length-append, length-take, length-drop) (omega arith)

pub patched-back : (offset : ℕ) (new old : List ℕ) → offset ≤ length old → take (length new) (drop offset (patched offset new old)) ≡ new
patched-back offset new old l =
    let long : length (take offset old) ≡ offset = simp length-take (omega arith) in
    ap (take (length new)) (drop_at (take offset old) (new ++ drop (offset + length new) old) offset long) ∙ take_at new (drop (offset + length new) old) (length new) refl

patched-none : (offset : ℕ) (p : Option Page) → over_at p (patched offset [] (bytes_at p)) ≡ p
patched-none offset None = refl
patched-none offset (Some (sound bs)) = ap (λ n. Some (sound (take offset bs ++ drop n bs))) (add-zero offset) ∙ ap (λ x. Some (sound x)) (take-append-drop offset bs)
patched-none offset (Some (worn o bs)) = refl
patched-none offset (Some (lost o)) = refl

-- the pages after an accepted call: all as before, or one patched
pages_or : (b : Book) (call : Call) (q : ℕ) → ((changed b call).pages q ≡ b.pages q) ⊎ ((mark : ℕ) × (offset : ℕ) × (bytes : List ℕ) × (call ≡ Write mark q offset bytes) × ((changed b call).pages q ≡ over_at (b.pages q) (patched offset bytes (bytes_at (b.pages q)))))
pages_or b (Fix kind page) q = inl refl
pages_or b (Read g offset len) q = inl refl
pages_or b (Write mark page offset bytes) q = go (eqb q page) refl
  where
    go : (t : Bool) → eqb q page ≡ t → ((changed b (Write mark page offset bytes)).pages q ≡ b.pages q) ⊎ ((mark' : ℕ) × (offset' : ℕ) × (bytes' : List ℕ) × (Write mark page offset bytes ≡ Write mark' q offset' bytes') × ((changed b (Write mark page offset bytes)).pages q ≡ over_at (b.pages q) (patched offset' bytes' (bytes_at (b.pages q)))))
    go true e = inr (
      mark,
      offset,
      bytes,
      ap (λ k. Write mark k offset bytes) (sym (eqb-true q page e)),
      ap (λ t. cond t (over_at (b.pages q) (patched offset bytes (bytes_at (b.pages page)))) (b.pages q)) e ∙ ap (λ k. over_at (b.pages q) (patched offset bytes (bytes_at (b.pages k)))) (sym (eqb-true q page e)),
    )
    go false e = inl (ap (λ t. cond t (over_at (b.pages q) (patched offset bytes (bytes_at (b.pages page)))) (b.pages q)) e)
pages_or b (Unfix g) q = inl refl
pages_or b (Flush page) q = inl refl
pages_or b FlushAll q = inl refl
pages_or b Close q = inl refl

pub wrote_or : (b : Book) (call : Call) (q : ℕ) → ((next b call).pages q ≡ b.pages q) ⊎ Wrote b call q
wrote_or b call q =
    elim (next_or b call) [
      | inl e ↦ inl (ap (λ d. d.pages q) e)
      | inr e ↦ elim (pages_or b call q) [
        | inl same ↦ inl (ap (λ d. d.pages q) e.1 ∙ same)
        | inr w ↦ inr (record { mark = w.0; offset = w.1; bytes = w.2; was = w.3; accepted = e.0; becomes = ap (λ d. d.pages q) e.1 ∙ w.4 })
      ]
    ]

state-next : (b : Book) (call : Call) (q : ℕ) → state_at ((next b call).pages q) ≡ state_at (b.pages q)
state-next b call q = elim (wrote_or b call q) [ inl e ↦ ap state_at e | inr w ↦ ap state_at w.becomes ∙ state-over (b.pages q) _ ]

pub states-after : (b : Book) (calls : List Call) (q : ℕ) → state_at ((book_after b calls).pages q) ≡ state_at (b.pages q)
states-after b [] q = refl
states-after b (call ∷ calls) q = states-after (next b call) calls q ∙ state-next b call q

unsound-next : (b : Book) (call : Call) (q : ℕ) → writable (b.pages q) ≡ false → (next b call).pages q ≡ b.pages q
unsound-next b call q h = elim (wrote_or b call q) [ inl e ↦ e | inr w ↦ w.becomes ∙ over-refused (b.pages q) _ h ]

pub unsound-after : (b : Book) (calls : List Call) (q : ℕ) → writable (b.pages q) ≡ false → (book_after b calls).pages q ≡ b.pages q
unsound-after b [] q h = refl
unsound-after b (call ∷ calls) q h = let e = unsound-next b call q h in unsound-after (next b call) calls q (ap writable e ∙ h) ∙ e

-- a write of no bytes
none_at : (b : Book) (page offset k : ℕ) → written b.pages page (patched offset [] (bytes_at (b.pages page))) k ≡ b.pages k
none_at b page offset k = go (eqb k page) refl
  where
    go : (t : Bool) → eqb k page ≡ t → cond t (over_at (b.pages k) (patched offset [] (bytes_at (b.pages page)))) (b.pages k) ≡ b.pages k
    go true e = ap (λ j. over_at (b.pages k) (patched offset [] (bytes_at (b.pages j)))) (sym (eqb-true k page e)) ∙ patched-none offset (b.pages k)
    go false e = refl

pub none_written : (b : Book) (mark page offset : ℕ) → next b (Write mark page offset []) ≡ b
none_written b mark page offset = by_next (λ d. d ≡ b) b (Write mark page offset []) refl (λ _ i. record { size = b.size; bound = b.bound; mark = b.mark; clock = b.clock; pages = λ k. none_at b page offset k i; reading = b.reading; updating = b.updating })
