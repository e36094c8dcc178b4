-- Where each fix is followed at once by its unfix, every page is free at each fix.
use Rattle.std.proofs.Common.{◌≡◌, ℕ, ◌<◌, true, false, cond, ◌&&◌, eqb, List, [], ◌∷◌, map, Some, None, Option, sym, refl, ap, arith, lt-ltb, eq-eqb}
use Rattle.page.specs.declared.refusal.Refusal.{Refusal}
use Rattle.page.specs.declared.refusal.Refusal.TheVariants.{NotGranted}
use Rattle.book.specs.Book.{Book, granted, grants, ◌otherwise◌, first_no, refusal, next}
use Rattle.book.specs.Call.{Call}
use Rattle.book.specs.Call.Call.{Fix, Unfix}
use Rattle.book.specs.Counts.{same_kind, one}
use Rattle.book.specs.declared.grant.Kind.{Kind}
use Rattle.book.specs.declared.grant.Kind.TheVariants.{Reading, Updating}
use Rattle.book.specs.declared.grant.Ticket.{Ticket}
use Rattle.book.proofs.Counted.{counted, same_after}
use Rattle.turns.specs.Turns.{free, named, unless, fixed_page}
use Rattle.published.specs.Fixings.{Fixing, fixing, fixings, AtOnce}
use Rattle.published.specs.Fixings.AtOnce.{none, pair, other}
use Rattle.published.proofs.Books.{never, grants_fall}

-- a fix at which every page is free
abbrev pub unheld : ℕ → Fixing
unheld page = record { page = page; free = λ q. true }

-- no grant is out
abbrev pub Idle : Book → Type 0
Idle b = (q : ℕ) → grants b q ≡ 0

all-free : (b : Book) → Idle b → free b ≡ (λ q. true)
all-free b h = λ i q. eq-eqb (grants b q) 0 (h q) i

named_unfix : (o : Option Refusal) (g : Ticket) → unless o (named (Unfix g)) ≡ None
named_unfix None g = refl
named_unfix (Some r) g = refl

-- a fix and the unfix of its grant leave no grant out
module _ (b : Book) (kind : Kind) (page : ℕ) (e : refusal b (Fix kind page) ≡ None) where
  abbrev grant : Ticket
  grant = record { kind = kind; mark = b.mark; page = page }

  abbrev between : Book
  between = next b (Fix kind page)

  same_kind_lem : (k : Kind) → same_kind k k ≡ true
  same_kind_lem Reading = refl
  same_kind_lem Updating = refl

  out : 0 < granted between kind page
  out =
      let c = counted b (Fix kind page ∷ []) kind page in
      let f = never (refusal b (Fix kind page)) in
      let o : one (refusal b (Fix kind page)) (cond (same_kind kind kind) (eqb page page) false) ≡ 1 = λ i. one (e i) (cond (same_kind_lem kind i) (eq-eqb page page refl i) false) in
      omega arith

  accepted : refusal between (Unfix grant) ≡ None
  accepted =
      let m : eqb b.mark between.mark ≡ true = eq-eqb b.mark between.mark (sym (same_after b (Fix kind page ∷ [])).2) in
      λ i. first_no ((m i && lt-ltb 0 (granted between kind page) out i) otherwise NotGranted ∷ [])

  again : (k : Kind) (q : ℕ) → granted (next between (Unfix grant)) k q ≡ granted b k q
  again k q =
      let a = counted b (Fix kind page ∷ []) k q in
      let c = counted between (Unfix grant ∷ []) k q in
      let t = cond (same_kind kind k) (eqb q page) false in
      let o : one (refusal b (Fix kind page)) t ≡ cond t 1 0 = ap (λ (x : Option Refusal). one x t) e in
      let u : one (refusal between (Unfix grant)) t ≡ cond t 1 0 = ap (λ (x : Option Refusal). one x t) accepted in
      let f = never (refusal b (Fix kind page)) in
      let h = never (refusal between (Unfix grant)) in
      omega arith

  idle-pair : Idle b → Idle (next between (Unfix grant))
  idle-pair h q = let r = again Reading q in let u = again Updating q in let z = h q in omega arith

pub at_once_lem : {b : Book} {calls : List Call} {pages : List ℕ} → Idle b → AtOnce b calls pages → fixings b calls ≡ map unheld pages
at_once_lem h none = refl
at_once_lem {b} h (pair {kind = kind} {page = page} {calls = calls} {pages = pages} e a) =
    let g = grant b kind page e in
    let d = between b kind page e in
    let rest = at_once_lem (idle-pair b kind page e h) a in
    let first : fixed_page b (Fix kind page) ≡ Some page = ap (λ (o : Option Refusal). unless o (Some page)) e in
    let second : fixed_page d (Unfix g) ≡ None = named_unfix (refusal d (Unfix g)) g in
    λ i. fixing (all-free b h i) (first i) (fixing (free d) (second i) (rest i))
at_once_lem {b} h (other {call = call} e a) =
    let rest = at_once_lem (λ q. let l = grants_fall b call q e in let z = h q in omega arith) a in
    λ i. fixing (free b) (e i) (rest i)
