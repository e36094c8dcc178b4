-- A book is proper from its opening on.
use Rattle.std.proofs.Common.{◌≡◌, ℕ, ◌+◌, ◌-◌, ◌<◌, ◌≤◌, Bool, true, false, cond, eqb, ltb, leb, List, [], ◌∷◌, length, is_some, is_ok, Some, None, Option, sym, refl, ap, ◌∙◌, subst, inl, inr, arith, lt-ltb, eqb-true, leb-true}
use borrow.Author.Tests.{clash, apart_eqb}
use Rattle.page.specs.declared.refusal.Refusal.TheVariants.{PastPageEnd}
use Rattle.device.specs.Row.{Page, sound, worn, lost, Row}
use Rattle.device.specs.Shape.{Shaped, Whole}
use Rattle.device.proofs.Rows.{written_by, read-written, write-written}
use Rattle.book.specs.declared.grant.Kind.{Kind}
use Rattle.book.specs.declared.grant.Kind.TheVariants.{Reading, Updating}
use Rattle.book.specs.declared.grant.Ticket.{Ticket}
use Rattle.book.specs.Book.{Book, opened, by_kind, granted, grants, held, held_below, ◌otherwise◌, is_not_lost, is_not_worn, is_granted, refusal, put, with_grants, next, book_after}
use Rattle.book.specs.Bytes.{readable, writable, bytes_at, patched}
use Rattle.book.specs.Call.{Call}
use Rattle.book.specs.Call.Call.{Fix, Read, Write, Unfix, Flush, FlushAll, Close}
use Rattle.book.specs.GrantLaws.{Fixed}
use Rattle.book.specs.Proper.{Proper}
use Rattle.book.proofs.Asked.{changed, by_next, first-yes, yes, fixed, granted-yes}
use Rattle.book.proofs.Held.{held_le, held_more, held_none}
use Rattle.book.proofs.Pages.{some-over, whole-over, whole-bytes, writable-readable, patched-long}

pub put_same : (f : ℕ → ℕ) (k q x : ℕ) → eqb q k ≡ true → put f k x q ≡ x
put_same f k q x e = ap (λ b. cond b x (f q)) e

pub put_other : (f : ℕ → ℕ) (k q x : ℕ) → eqb q k ≡ false → put f k x q ≡ f q
put_other f k q x e = ap (λ b. cond b x (f q)) e

-- the grants of both kinds after an accepted fix, and before an accepted unfix
grants-fix : (b : Book) (kind : Kind) (page q : ℕ) → grants (changed b (Fix kind page)) q ≡ cond (eqb q page) (grants b q + 1) (grants b q)
grants-fix b kind page q = go kind (eqb q page) refl
  where
    go : (kind : Kind) (t : Bool) → eqb q page ≡ t → grants (changed b (Fix kind page)) q ≡ cond t (grants b q + 1) (grants b q)
    go Reading true e = let s = put_same b.reading page q (b.reading page + 1) e in let k = ap b.reading (eqb-true q page e) in omega arith
    go Reading false e = let s = put_other b.reading page q (b.reading page + 1) e in omega arith
    go Updating true e = let s = put_same b.updating page q (b.updating page + 1) e in let k = ap b.updating (eqb-true q page e) in omega arith
    go Updating false e = let s = put_other b.updating page q (b.updating page + 1) e in omega arith

grants_unfix : (b : Book) (g : Ticket) (q : ℕ) → 0 < granted b g.kind g.page → grants b q ≡ cond (eqb q g.page) (grants (changed b (Unfix g)) q + 1) (grants (changed b (Unfix g)) q)
grants_unfix b g q = go g.kind (eqb q g.page) refl
  where
    go : (kind : Kind) (t : Bool) → eqb q g.page ≡ t → 0 < granted b kind g.page → grants b q ≡ cond t (grants (with_grants b b.clock kind g.page (granted b kind g.page - 1)) q + 1) (grants (with_grants b b.clock kind g.page (granted b kind g.page - 1)) q)
    go Reading true e h = let s = put_same b.reading g.page q (b.reading g.page - 1) e in let k = ap b.reading (eqb-true q g.page e) in omega arith
    go Reading false e h = let s = put_other b.reading g.page q (b.reading g.page - 1) e in omega arith
    go Updating true e h = let s = put_same b.updating g.page q (b.updating g.page - 1) e in let k = ap b.updating (eqb-true q g.page e) in omega arith
    go Updating false e h = let s = put_other b.updating g.page q (b.updating g.page - 1) e in omega arith

readable-yes : (p : Option Page) → is_some p ≡ true → is_not_lost p ≡ None → readable p ≡ true
readable-yes None s e = absurd (clash s)
readable-yes (Some (sound bs)) s e = refl
readable-yes (Some (worn o bs)) s e = refl
readable-yes (Some (lost o)) s e = absurd (let z : ◌≡◌ {A = ℕ} 0 1 = cc in omega arith)

writable-yes : (p : Option Page) → is_some p ≡ true → is_not_lost p ≡ None → is_not_worn p ≡ None → writable p ≡ true
writable-yes None s e f = absurd (clash s)
writable-yes (Some (sound bs)) s e f = refl
writable-yes (Some (worn o bs)) s e f = absurd (let z : ◌≡◌ {A = ℕ} 0 1 = cc in omega arith)
writable-yes (Some (lost o)) s e f = absurd (let z : ◌≡◌ {A = ℕ} 0 1 = cc in omega arith)

proper-fix : (b : Book) (kind : Kind) (page : ℕ) → Proper b → refusal b (Fix kind page) ≡ None → Proper (changed b (Fix kind page))
proper-fix b kind page p e =
    record {
      shaped = p.shaped;
      readables = λ k h. read_at k (eqb k page) refl (rw (grants-fix b kind page k) at h);
      sounds = λ k h. sound_at k kind refl (eqb k page) refl h;
      few = λ k. few_at k (eqb k page) refl (grants-fix b kind page k);
      bounded = elim f.frame [ inl h ↦ again h | inr h ↦ room h ];
      clock = let t = f.time in omega arith;
    }
  where
    f : Fixed 255 b kind page
    f = fixed b kind page e

    there : is_some (b.pages page) ≡ true
    there = p.shaped.exact page ∙ lt-ltb page b.size f.there

    read_at : (k : ℕ) (t : Bool) → eqb k page ≡ t → 0 < cond t (grants b k + 1) (grants b k) → readable (b.pages k) ≡ true
    read_at k true g h = ap (λ k. readable (b.pages k)) (eqb-true k page g) ∙ readable-yes (b.pages page) there f.not_lost
    read_at k false g h = p.readables k h

    sound_at : (k : ℕ) (kd : Kind) → kind ≡ kd → (t : Bool) → eqb k page ≡ t → 0 < by_kind kd b.updating (put b.updating page (granted b kd page + 1)) k → writable (b.pages k) ≡ true
    sound_at k Reading g t w h = p.sounds k h
    sound_at k Updating g true w h = ap (λ k. writable (b.pages k)) (eqb-true k page w) ∙ writable-yes (b.pages page) there f.not_lost (subst (λ x. by_kind x None (is_not_worn (b.pages page)) ≡ None) g f.not_worn)
    sound_at k Updating g false w h = p.sounds k (subst (λ n. 0 < n) (put_other b.updating page k _ w) h)

    few_at : (k : ℕ) (t : Bool) → eqb k page ≡ t → grants (changed b (Fix kind page)) k ≡ cond t (grants b k + 1) (grants b k) → grants (changed b (Fix kind page)) k ≤ 255
    few_at k true g h = let s = ap (grants b) (eqb-true k page g) in let l = f.few in omega arith
    few_at k false g h = let l = p.few k in omega arith

    -- the page has a grant out already
    again : 0 < grants b page → held_below b.size (changed b (Fix kind page)) ≤ b.bound
    again h = let l = held_le b (changed b (Fix kind page)) b.size (λ q _ z. was q (eqb q page) refl (rw (grants-fix b kind page q) at z)) in let m = p.bounded in omega arith
      where
        was : (q : ℕ) (t : Bool) → eqb q page ≡ t → 0 < cond t (grants b q + 1) (grants b q) → 0 < grants b q
        was q true g z = let s = ap (grants b) (eqb-true q page g) in omega arith
        was q false g z = z

    -- fewer pages than the bound have one
    room : held b < b.bound → held_below b.size (changed b (Fix kind page)) ≤ b.bound
    room h = let l = held_more b (changed b (Fix kind page)) page b.size (λ q n. grants-fix b kind page q ∙ ap (λ t. cond t (grants b q + 1) (grants b q)) (apart_eqb q page n)) in omega arith

proper_unfix : (b : Book) (g : Ticket) → Proper b → refusal b (Unfix g) ≡ None → Proper (changed b (Unfix g))
proper_unfix b g p e =
    record {
      shaped = p.shaped;
      readables = λ k h. let l = less k in p.readables k (omega arith);
      sounds = λ k h. p.sounds k (fewer k g.kind (eqb k g.page) refl there h);
      few = λ k. let l = less k in let m = p.few k in omega arith;
      bounded = let l = held_le b (changed b (Unfix g)) b.size (λ q _ z. let l = less q in omega arith) in let m = p.bounded in omega arith;
      clock = p.clock;
    }
  where
    there : 0 < granted b g.kind g.page
    there = (granted-yes b g.kind g.mark g.page (first-yes (is_granted b g.kind g.mark g.page) _ e).0).1

    less_by : (t : Bool) (m n : ℕ) → m ≡ cond t (n + 1) n → n ≤ m
    less_by true m n h = omega arith
    less_by false m n h = omega arith

    less : (q : ℕ) → grants (changed b (Unfix g)) q ≤ grants b q
    less q = less_by (eqb q g.page) (grants b q) (grants (changed b (Unfix g)) q) (grants_unfix b g q there)

    fewer : (k : ℕ) (kd : Kind) (t : Bool) → eqb k g.page ≡ t → 0 < granted b kd g.page → 0 < by_kind kd b.updating (put b.updating g.page (granted b kd g.page - 1)) k → 0 < b.updating k
    fewer k Reading t w o h = h
    fewer k Updating true w o h = subst (λ q. 0 < b.updating q) (sym (eqb-true k g.page w)) o
    fewer k Updating false w o h = subst (λ n. 0 < n) (put_other b.updating g.page k _ w) h

-- what the questions of an accepted write found, and so the page and its bytes
pub write-yes : (b : Book) (mark page offset : ℕ) (bytes : List ℕ) → Proper b → refusal b (Write mark page offset bytes) ≡ None → (offset + length bytes ≤ 512) × (writable (b.pages page) ≡ true) × (length (bytes_at (b.pages page)) ≡ 512)
write-yes b mark page offset bytes p e =
    let y = first-yes (is_granted b Updating mark page) _ e in
    let w : writable (b.pages page) ≡ true = p.sounds page (granted-yes b Updating mark page y.0).1 in (
      leb-true _ _ (yes (leb (offset + length bytes) 512) PastPageEnd (first-yes (leb (offset + length bytes) 512 otherwise PastPageEnd) _ y.1).0),
      w,
      whole-bytes (b.pages page) (p.shaped.whole page) (writable-readable (b.pages page) w),
    )

proper-write : (b : Book) (mark page offset : ℕ) (bytes : List ℕ) → Proper b → refusal b (Write mark page offset bytes) ≡ None → Proper (changed b (Write mark page offset bytes))
proper-write b mark page offset bytes p e =
    record {
      shaped = record {
        few = p.shaped.few;
        exact = λ k. written_by b.pages page new (λ o. is_some o ≡ ltb k b.size) k (some-over (b.pages k) new ∙ p.shaped.exact k) (p.shaped.exact k);
        whole = λ k. written_by b.pages page new Whole k (whole-over (b.pages k) new long (p.shaped.whole k)) (p.shaped.whole k);
      };
      readables = λ k h. ap is_ok (read-written b.pages page new k) ∙ p.readables k h;
      sounds = λ k h. ap is_ok (write-written b.pages page new k) ∙ p.sounds k h;
      few = p.few;
      bounded = let l = held_le b (changed b (Write mark page offset bytes)) b.size (λ q _ z. z) in let m = p.bounded in omega arith;
      clock = p.clock;
    }
  where
    new : List ℕ
    new = patched offset bytes (bytes_at (b.pages page))

    long : length (patched offset bytes (bytes_at (b.pages page))) ≡ 512
    long = let y = write-yes b mark page offset bytes p e in patched-long offset bytes (bytes_at (b.pages page)) y.0 y.2

proper-next : (b : Book) (call : Call) → Proper b → Proper (next b call)
proper-next b (Fix kind page) p = by_next Proper b (Fix kind page) p (proper-fix b kind page p)
proper-next b (Read g offset len) p = by_next Proper b (Read g offset len) p (λ _. p)
proper-next b (Write mark page offset bytes) p = by_next Proper b (Write mark page offset bytes) p (proper-write b mark page offset bytes p)
proper-next b (Unfix g) p = by_next Proper b (Unfix g) p (proper_unfix b g p)
proper-next b (Flush page) p = by_next Proper b (Flush page) p (λ _. p)
proper-next b FlushAll p = p
proper-next b Close p = p

pub proper-after : (b : Book) (calls : List Call) → Proper b → Proper (book_after b calls)
proper-after b [] p = p
proper-after b (call ∷ calls) p = proper-after (next b call) calls (proper-next b call p)

pub proper-opened : (size bound mark : ℕ) (row : Row) → Shaped size row → Proper (opened size bound mark row)
proper-opened size bound mark row s =
    record {
      shaped = s;
      readables = λ k h. absurd (omega arith);
      sounds = λ k h. absurd (omega arith);
      few = λ k. omega arith;
      bounded = let h = held_none size size bound mark row in omega arith;
      clock = omega arith;
    }
