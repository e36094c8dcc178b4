-- The grants and the clock count the accepted calls; size, bound and mark stay.
use Rattle.std.proofs.Common.{◌≡◌, ℕ, ◌+◌, ◌-◌, ◌<◌, ◌≤◌, Bool, true, false, cond, eqb, List, [], ◌∷◌, Some, None, Option, refl, ap, ◌∙◌, arith, eqb-true}
use Rattle.page.specs.declared.refusal.Refusal.{Refusal}
use Rattle.book.specs.declared.grant.Kind.{Kind}
use Rattle.book.specs.declared.grant.Kind.TheVariants.{Reading, Updating}
use Rattle.book.specs.Book.{Book, granted, refusal, accepted, decided, with_grants, next, book_after}
use Rattle.book.specs.Call.{Call}
use Rattle.book.specs.Call.Call.{Fix, Read, Write, Unfix, Flush, FlushAll, Close}
use Rattle.book.specs.Counts.{same_kind, is_fix, fixes, unfixes, one, count}
use Rattle.book.proofs.Asked.{changed, by_next, fixed, unfixed}
use Rattle.book.proofs.Propers.{put_same, put_other}

fix_one : (b : Book) (k kind : Kind) (clock page q : ℕ) (t : Bool) → eqb q page ≡ t → granted (with_grants b clock k page (granted b k page + 1)) kind q ≡ granted b kind q + cond (cond (same_kind k kind) t false) 1 0
fix_one b Reading Reading clock page q true e = let s = put_same b.reading page q (b.reading page + 1) e in let k = ap b.reading (eqb-true q page e) in omega arith
fix_one b Reading Reading clock page q false e = let s = put_other b.reading page q (b.reading page + 1) e in omega arith
fix_one b Reading Updating clock page q t e = omega arith
fix_one b Updating Reading clock page q t e = omega arith
fix_one b Updating Updating clock page q true e = let s = put_same b.updating page q (b.updating page + 1) e in let k = ap b.updating (eqb-true q page e) in omega arith
fix_one b Updating Updating clock page q false e = let s = put_other b.updating page q (b.updating page + 1) e in omega arith

unfix_one : (b : Book) (k kind : Kind) (clock page q : ℕ) (t : Bool) → eqb q page ≡ t → 0 < granted b k page → granted (with_grants b clock k page (granted b k page - 1)) kind q + cond (cond (same_kind k kind) t false) 1 0 ≡ granted b kind q
unfix_one b Reading Reading clock page q true e h = let s = put_same b.reading page q (b.reading page - 1) e in let k = ap b.reading (eqb-true q page e) in omega arith
unfix_one b Reading Reading clock page q false e h = let s = put_other b.reading page q (b.reading page - 1) e in omega arith
unfix_one b Reading Updating clock page q t e h = omega arith
unfix_one b Updating Reading clock page q t e h = omega arith
unfix_one b Updating Updating clock page q true e h = let s = put_same b.updating page q (b.updating page - 1) e in let k = ap b.updating (eqb-true q page e) in omega arith
unfix_one b Updating Updating clock page q false e h = let s = put_other b.updating page q (b.updating page - 1) e in omega arith

-- an accepted call
counted-changed : (b : Book) (call : Call) (kind : Kind) (q : ℕ) → refusal b call ≡ None → granted (changed b call) kind q + cond (unfixes kind q call) 1 0 ≡ granted b kind q + cond (fixes kind q call) 1 0
counted-changed b (Fix k page) kind q e = let o = fix_one b k kind (b.clock + 1) page q (eqb q page) refl in omega arith
counted-changed b (Read g offset len) kind q e = refl
counted-changed b (Write mark page offset bytes) kind q e = refl
counted-changed b (Unfix g) kind q e = let o = unfix_one b g.kind kind b.clock g.page q (eqb q g.page) refl (unfixed b g e).out in omega arith
counted-changed b (Flush page) kind q e = refl
counted-changed b FlushAll kind q e = refl
counted-changed b Close kind q e = refl

clock-changed : (b : Book) (call : Call) → (changed b call).clock ≡ b.clock + cond (is_fix call) 1 0
clock-changed b (Fix k page) = refl
clock-changed b (Read g offset len) = omega arith
clock-changed b (Write mark page offset bytes) = omega arith
clock-changed b (Unfix g) = omega arith
clock-changed b (Flush page) = omega arith
clock-changed b FlushAll = omega arith
clock-changed b Close = omega arith

-- any call
counted_next : (b : Book) (call : Call) (kind : Kind) (q : ℕ) → granted (next b call) kind q + one (refusal b call) (unfixes kind q call) ≡ granted b kind q + one (refusal b call) (fixes kind q call)
counted_next b call kind q = go (refusal b call) refl
  where
    go : (o : Option Refusal) → refusal b call ≡ o → granted (decided b o (accepted b call)).1 kind q + one o (unfixes kind q call) ≡ granted b kind q + one o (fixes kind q call)
    go None e = counted-changed b call kind q e
    go (Some r) e = refl

clock-next : (b : Book) (call : Call) → (next b call).clock ≡ b.clock + one (refusal b call) (is_fix call)
clock-next b call = go (refusal b call)
  where
    go : (o : Option Refusal) → (decided b o (accepted b call)).1.clock ≡ b.clock + one o (is_fix call)
    go None = clock-changed b call
    go (Some r) = omega arith

-- a life
pub counted : (b : Book) (calls : List Call) (kind : Kind) (q : ℕ) → granted (book_after b calls) kind q + count (unfixes kind q) b calls ≡ granted b kind q + count (fixes kind q) b calls
counted b [] kind q = refl
counted b (call ∷ calls) kind q = let one = counted_next b call kind q in let more = counted (next b call) calls kind q in omega arith

pub clock-counts : (b : Book) (calls : List Call) → (book_after b calls).clock ≡ b.clock + count is_fix b calls
clock-counts b [] = omega arith
clock-counts b (call ∷ calls) = let one = clock-next b call in let more = clock-counts (next b call) calls in omega arith

-- the clock never passes its last time
clock_le : (b : Book) (call : Call) → b.clock ≤ 4294967295 → refusal b call ≡ None → (changed b call).clock ≤ 4294967295
clock_le b (Fix k page) h e = let t = (fixed b k page e).time in omega arith
clock_le b (Read g offset len) h e = h
clock_le b (Write mark page offset bytes) h e = h
clock_le b (Unfix g) h e = h
clock_le b (Flush page) h e = h
clock_le b FlushAll h e = h
clock_le b Close h e = h

pub clock-after : (b : Book) (calls : List Call) → b.clock ≤ 4294967295 → (book_after b calls).clock ≤ 4294967295
clock-after b [] h = h
clock-after b (call ∷ calls) h = clock-after (next b call) calls (by_next (λ d. d.clock ≤ 4294967295) b call h (clock_le b call h))

same-changed : (b : Book) (call : Call) → ((changed b call).size ≡ b.size) × ((changed b call).bound ≡ b.bound) × ((changed b call).mark ≡ b.mark)
same-changed b (Fix kind page) = (refl, refl, refl)
same-changed b (Read g offset len) = (refl, refl, refl)
same-changed b (Write mark page offset bytes) = (refl, refl, refl)
same-changed b (Unfix g) = (refl, refl, refl)
same-changed b (Flush page) = (refl, refl, refl)
same-changed b FlushAll = (refl, refl, refl)
same-changed b Close = (refl, refl, refl)

pub same_after : (b : Book) (calls : List Call) → ((book_after b calls).size ≡ b.size) × ((book_after b calls).bound ≡ b.bound) × ((book_after b calls).mark ≡ b.mark)
same_after b [] = (refl, refl, refl)
same_after b (call ∷ calls) =
    let one = by_next (λ d. (d.size ≡ b.size) × (d.bound ≡ b.bound) × (d.mark ≡ b.mark)) b call (refl, refl, refl) (λ _. same-changed b call) in
    let more = same_after (next b call) calls in
    (more.0 ∙ one.0, more.1 ∙ one.1, more.2 ∙ one.2)
