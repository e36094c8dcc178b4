-- The laws of the book.
use Rattle.std.proofs.Common.{◌≡◌, ℕ, ◌+◌, ◌<◌, ◌≤◌, true, leb, List, length, take, drop, Some, None, Option, sym, refl, ap, ◌∙◌, subst, zero-add, arith, length-drop, length-take, leb-true}
use Rattle.page.specs.declared.refusal.Refusal.{Refusal}
use Rattle.page.specs.declared.refusal.Refusal.TheVariants.{PastPageEnd}
use Rattle.device.specs.Row.{Page, sound, worn, lost, Row, state_at}
use Rattle.device.specs.Shape.{Shaped}
use Rattle.device.proofs.Rows.{written_same, filled-over}
use Rattle.book.specs.declared.grant.Kind.{Kind}
use Rattle.book.specs.declared.grant.Kind.TheVariants.{Reading, Updating}
use Rattle.book.specs.declared.grant.Ticket.{Ticket}
use Rattle.book.specs.Book.{Book, opened, granted, held, ◌otherwise◌, is_granted, refusal, accepted, decided, says, next, book_after}
use Rattle.book.specs.Bytes.{readable, writable, bytes_at, patched}
use Rattle.book.specs.Call.{Call}
use Rattle.book.specs.Call.Call.{Read, Write}
use Rattle.book.specs.Call.Answer.{Copied, Refused}
use Rattle.book.specs.ClockLaws.{ClockLaws}
use Rattle.book.specs.Counts.{is_fix, count}
use Rattle.book.specs.GrantLaws.{GrantLaws}
use Rattle.book.specs.PageLaws.{PageLaws}
use Rattle.book.specs.Proper.{Proper}
use Rattle.book.proofs.Asked.{changed, accepted-next, first-yes, yes, fixed, granted-yes, unfixed, clock-full, page-full}
use Rattle.book.proofs.Counted.{counted, clock-counts, clock-after, same_after}
use Rattle.book.proofs.Pages.{whole-bytes, patched-back, wrote_or, states-after, unsound-after, none_written}
use Rattle.book.proofs.Propers.{write-yes, proper-after, proper-opened}

-- readable is told by the state
readable_by : (p q : Option Page) → state_at p ≡ state_at q → readable q ≡ true → readable p ≡ true
readable_by None None e h = h
readable_by None (Some q) e h = absurd (let z : ◌≡◌ {A = ℕ} 0 1 = cc in omega arith)
readable_by (Some (sound bs)) q e h = refl
readable_by (Some (worn o bs)) q e h = refl
readable_by (Some (lost o)) None e h = absurd (let z : ◌≡◌ {A = ℕ} 0 1 = cc in omega arith)
readable_by (Some (lost o)) (Some (sound bs)) e h = absurd (let z : ◌≡◌ {A = ℕ} 0 1 = cc in omega arith)
readable_by (Some (lost o)) (Some (worn w bs)) e h = absurd (let z : ◌≡◌ {A = ℕ} 0 1 = cc in omega arith)
readable_by (Some (lost o)) (Some (lost w)) e h = h

whole : (size bound mark : ℕ) (row : Row) (calls : List Call) → Shaped size row → (q : ℕ) → readable (row q) ≡ true → length (bytes_at ((book_after (opened size bound mark row) calls).pages q)) ≡ 512
whole size bound mark row calls s q h =
    let b = opened size bound mark row in
    whole-bytes ((book_after b calls).pages q) ((proper-after b calls (proper-opened size bound mark row s)).shaped.whole q) (readable_by ((book_after b calls).pages q) (row q) (states-after b calls q) h)

-- a page with a grant of a kind out is readable
granted-readable : (b : Book) (kind : Kind) (page : ℕ) → Proper b → 0 < granted b kind page → readable (b.pages page) ≡ true
granted-readable b Reading page p h = p.readables page (omega arith)
granted-readable b Updating page p h = p.readables page (omega arith)

copied : (b : Book) (g : Ticket) (offset len : ℕ) (bs : List ℕ) → Proper b → says b (Read g offset len) ≡ Copied bs → length bs ≡ len
copied b g offset len bs p = go (refusal b (Read g offset len)) refl
  where
    go : (o : Option Refusal) → refusal b (Read g offset len) ≡ o → (decided b o (accepted b (Read g offset len))).0 ≡ Copied bs → length bs ≡ len
    go (Some r) e h = absurd (let z : ◌≡◌ {A = ℕ} 0 1 = cc in omega arith)
    go None e h =
        let y = first-yes (is_granted b g.kind g.mark g.page) _ e in
        let fits : offset + len ≤ 512 = leb-true _ _ (yes (leb (offset + len) 512) PastPageEnd (first-yes (leb (offset + len) 512 otherwise PastPageEnd) _ y.1).0) in
        let long = whole-bytes (b.pages g.page) (p.shaped.whole g.page) (granted-readable b g.kind g.page p (granted-yes b g.kind g.mark g.page y.0).1) in
        let same : take len (drop offset (bytes_at (b.pages g.page))) ≡ bs = cc in
        ap length (sym same) ∙ taken (bytes_at (b.pages g.page)) fits long
      where
        taken : (all : List ℕ) → offset + len ≤ 512 → length all ≡ 512 → length (take len (drop offset all)) ≡ len
        taken all l e = simp (length-take, length-drop) (omega arith)

back : (b : Book) (mark page offset : ℕ) (bs : List ℕ) → Proper b → refusal b (Write mark page offset bs) ≡ None → says (next b (Write mark page offset bs)) (Read (record { kind = Updating; mark = mark; page = page }) offset (length bs)) ≡ Copied bs
back b mark page offset bs p e =
    ap (λ d. says d read) (accepted-next b write e) ∙ ap (λ o. (decided (changed b write) o (accepted (changed b write) read)).0) e ∙ ap (λ x. Copied (take (length bs) (drop offset x))) bytes ∙ ap Copied (patched-back offset bs (bytes_at (b.pages page)) (omega (arith, y.0, y.2)))
  where
    write : Call
    write = Write mark page offset bs

    read : Call
    read = Read (record { kind = Updating; mark = mark; page = page }) offset (length bs)

    y : (offset + length bs ≤ 512) × (writable (b.pages page) ≡ true) × (length (bytes_at (b.pages page)) ≡ 512)
    y = write-yes b mark page offset bs p e

    bytes : bytes_at ((changed b write).pages page) ≡ patched offset bs (bytes_at (b.pages page))
    bytes = ap bytes_at (written_same b.pages page (patched offset bs (bytes_at (b.pages page)))) ∙ filled-over (b.pages page) (patched offset bs (bytes_at (b.pages page))) _ y.1

refused : (b : Book) (call : Call) (r : Refusal) → refusal b call ≡ Some r → (says b call ≡ Refused r) × (next b call ≡ b)
refused b call r e = (ap (λ o. (decided b o (accepted b call)).0) e, ap (λ o. (decided b o (accepted b call)).1) e)

pub page_laws : PageLaws 512
page_laws = record { whole = whole; states = states-after; refused = refused; none = none_written; bytes = wrote_or; unsound = unsound-after; copied = copied; back = back }

pub grant_laws : GrantLaws 255
grant_laws =
    record {
      opens = proper-opened;
      proper = proper-after;
      size = λ b calls. (same_after b calls).0;
      bound = λ b calls. (same_after b calls).1;
      mark = λ b calls. (same_after b calls).2;
      counted = counted;
      few = λ b calls q p. (proper-after b calls p).few q;
      bounded = λ b calls p. subst (λ n. held (book_after b calls) ≤ n) (same_after b calls).1 (proper-after b calls p).bounded;
      fixed = fixed;
      unfixed = unfixed;
      full = page-full;
    }

pub clock_laws : ClockLaws 4294967295
clock_laws =
    record {
      counts = clock-counts;
      opens = λ size bound mark row calls. clock-counts (opened size bound mark row) calls ∙ zero-add (count is_fix (opened size bound mark row) calls);
      shows = λ size bound mark row calls. clock-after (opened size bound mark row) calls (omega arith);
      before = λ b kind page e. (fixed b kind page e).time;
      full = clock-full;
    }
