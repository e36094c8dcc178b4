-- The accepted fixes of a list of calls.
use Rattle.std.specs.Prelude.{◌≡◌, ℕ, Bool, List, [], ◌∷◌, Some, None, Option}
use Rattle.book.specs.Book.{Book, refusal, next}
use Rattle.book.specs.Call.{Call}
use Rattle.book.specs.Call.Call.{Fix, Unfix}
use Rattle.book.specs.declared.grant.Kind.{Kind}
use Rattle.turns.specs.Turns.{free, fixed_page}

-- An accepted fix: its page, and the pages that had no grant out then.
pub record Fixing : Type 0 where
  pub page : ℕ
  pub free : ℕ → Bool

-- The fix of a page, if one was fixed, before those that follow.
abbrev pub fixing : (ℕ → Bool) → Option ℕ → List Fixing → List Fixing
fixing free None later = later
fixing free (Some page) later = record { page = page; free = free } ∷ later

-- The accepted fixes of a list of calls, in their order.
abbrev pub fixings : Book → List Call → List Fixing
fixings b [] = []
fixings b (call ∷ calls) = fixing (free b) (fixed_page b call) (fixings (next b call) calls)

-- Lists of calls in which each accepted fix is followed at once by the unfix of its grant, with the
-- string of the pages fixed.
pub data AtOnce : Book → List Call → List ℕ → Type 0 where
  none : {b : Book} → AtOnce b [] []
  pair : {b : Book} {kind : Kind} {page : ℕ} {calls : List Call} {pages : List ℕ} →
      refusal b (Fix kind page) ≡ None →
      AtOnce (next (next b (Fix kind page)) (Unfix (record { kind = kind; mark = b.mark; page = page }))) calls pages →
      AtOnce b (Fix kind page ∷ Unfix (record { kind = kind; mark = b.mark; page = page }) ∷ calls) (page ∷ pages)
  other : {b : Book} {call : Call} {calls : List Call} {pages : List ℕ} →
      fixed_page b call ≡ None → AtOnce (next b call) calls pages → AtOnce b (call ∷ calls) pages
