-- What one call does to the clock and the grants of a book.
use Rattle.std.proofs.Common.{◌≡◌, ℕ, ◌+◌, ◌≤◌, Bool, true, false, cond, eqb, [], ◌∷◌, Some, None, Option, refl, ap, ◌∙◌, arith}
use Rattle.page.specs.declared.refusal.Refusal.{Refusal}
use Rattle.book.specs.Book.{Book, granted, grants, refusal, next}
use Rattle.book.specs.Call.{Call}
use Rattle.book.specs.Call.Call.{Fix, Read, Write, Unfix, Flush, FlushAll, Close}
use Rattle.book.specs.Counts.{same_kind, is_fix, fixes, one}
use Rattle.book.specs.declared.grant.Kind.{Kind}
use Rattle.book.specs.declared.grant.Kind.TheVariants.{Reading, Updating}
use Rattle.book.proofs.Counted.{counted, clock-counts, same_after}
use Rattle.turns.specs.Turns.{named, unless, fixed_page}

-- what is not such a call counts as none
pub never : (o : Option Refusal) → one o false ≡ 0
never None = refl
never (Some r) = refl

-- a call that fixes no page counts as none
pub record Uncounted (o : Option Refusal) (call : Call) : Type 0 where
  pub time : one o (is_fix call) ≡ 0
  pub grants : (kind : Kind) (q : ℕ) → one o (fixes kind q call) ≡ 0

uncounted : (o : Option Refusal) (call : Call) → unless o (named call) ≡ None → Uncounted o call
uncounted (Some r) call e = record { time = refl; grants = λ kind q. refl }
uncounted None (Fix k page) e = absurd (let z : ◌≡◌ {A = ℕ} 0 1 = cc in omega arith)
uncounted None (Read g offset len) e = record { time = refl; grants = λ kind q. refl }
uncounted None (Write mark page offset bytes) e = record { time = refl; grants = λ kind q. refl }
uncounted None (Unfix g) e = record { time = refl; grants = λ kind q. refl }
uncounted None (Flush page) e = record { time = refl; grants = λ kind q. refl }
uncounted None FlushAll e = record { time = refl; grants = λ kind q. refl }
uncounted None Close e = record { time = refl; grants = λ kind q. refl }

granted_le : (b : Book) (call : Call) (kind : Kind) (q : ℕ) → one (refusal b call) (fixes kind q call) ≡ 0 → granted (next b call) kind q ≤ granted b kind q
granted_le b call kind q e = let c = counted b (call ∷ []) kind q in omega arith

-- such a call leaves the clock, and puts no grant out
pub clock-stays : (b : Book) (call : Call) → fixed_page b call ≡ None → (next b call).clock ≡ b.clock
clock-stays b call e = let u = (uncounted (refusal b call) call e).time in let c = clock-counts b (call ∷ []) in omega arith

pub grants_fall : (b : Book) (call : Call) (q : ℕ) → fixed_page b call ≡ None → grants (next b call) q ≤ grants b q
grants_fall b call q e =
    let u = uncounted (refusal b call) call e in
    let r = granted_le b call Reading q (u.grants Reading q) in
    let w = granted_le b call Updating q (u.grants Updating q) in
    omega arith

-- an accepted fix takes the clock on by one, and puts no grant out for another page
pub clock_ticks : (b : Book) (kind : Kind) (page : ℕ) → refusal b (Fix kind page) ≡ None → (next b (Fix kind page)).clock ≡ b.clock + 1
clock_ticks b kind page e =
    let o : one (refusal b (Fix kind page)) true ≡ 1 = ap (λ (x : Option Refusal). one x true) e in
    let c = clock-counts b (Fix kind page ∷ []) in
    omega arith

pub grants-others : (b : Book) (kind : Kind) (page q : ℕ) → eqb q page ≡ false → grants (next b (Fix kind page)) q ≤ grants b q
grants-others b kind page q e =
    let r = granted_le b (Fix kind page) Reading q (none (same_kind kind Reading) (refusal b (Fix kind page))) in
    let w = granted_le b (Fix kind page) Updating q (none (same_kind kind Updating) (refusal b (Fix kind page))) in
    omega arith
  where
    none : (same : Bool) (o : Option Refusal) → one o (cond same (eqb q page) false) ≡ 0
    none true o = ap (one o) e ∙ never o
    none false o = never o

pub size-stays : (b : Book) (call : Call) → (next b call).size ≡ b.size
size-stays b call = (same_after b (call ∷ [])).0

pub bound-stays : (b : Book) (call : Call) → (next b call).bound ≡ b.bound
bound-stays b call = (same_after b (call ∷ [])).1
