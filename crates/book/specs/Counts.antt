-- What the accepted calls of a life come to.
use Rattle.std.specs.Prelude.{ℕ, ◌+◌, Bool, true, false, cond, List, [], ◌∷◌, Some, None, Option, ◌==◌}
use Rattle.page.specs.declared.refusal.Refusal.{Refusal}
use Rattle.book.specs.declared.grant.Kind.{Kind}
use Rattle.book.specs.declared.grant.Kind.TheVariants.{Reading, Updating}
use Rattle.book.specs.Book.{Book, by_kind, refusal, next}
use Rattle.book.specs.Call.{Call}
use Rattle.book.specs.Call.Call.{Fix, Read, Write, Unfix, Flush, FlushAll, Close}

abbrev pub same_kind : Kind → Kind → Bool
same_kind Reading kind = by_kind kind true false
same_kind Updating kind = by_kind kind false true

-- Is the call a fix, is it a fix of this kind and page, is it an unfix of such a grant?
abbrev pub is_fix : Call → Bool
is_fix (Fix k page) = true
is_fix (Read g offset len) = false
is_fix (Write mark page offset bytes) = false
is_fix (Unfix g) = false
is_fix (Flush page) = false
is_fix FlushAll = false
is_fix Close = false

abbrev pub fixes : Kind → ℕ → Call → Bool
fixes kind q (Fix k page) = cond (same_kind k kind) (q == page) false
fixes kind q (Read g offset len) = false
fixes kind q (Write mark page offset bytes) = false
fixes kind q (Unfix g) = false
fixes kind q (Flush page) = false
fixes kind q FlushAll = false
fixes kind q Close = false

abbrev pub unfixes : Kind → ℕ → Call → Bool
unfixes kind q (Fix k page) = false
unfixes kind q (Read g offset len) = false
unfixes kind q (Write mark page offset bytes) = false
unfixes kind q (Unfix g) = cond (same_kind g.kind kind) (q == g.page) false
unfixes kind q (Flush page) = false
unfixes kind q FlushAll = false
unfixes kind q Close = false

-- One where the call was accepted and is such a call, else 0; and how many of a list of calls are so.
abbrev pub one : Option Refusal → Bool → ℕ
one None t = cond t 1 0
one (Some r) t = 0

abbrev pub count : (Call → Bool) → Book → List Call → ℕ
count such b [] = 0
count such b (call ∷ calls) = one (refusal b call) (such call) + count such (next b call) calls
