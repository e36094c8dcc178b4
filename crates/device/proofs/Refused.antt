-- A refused read or write of a device that is left as it was.
use Rattle.std.proofs.Common.{◌≡◌, ℕ, false, List, is_ok, Some, None, Option, Result, sym, refl, ap, ◌∙◌}
use Rattle.std.proofs.lemmas.Bool.{false≢true}
use Rattle.page.specs.declared.refusal.Refusal.{Refusal}
use Rattle.device.specs.Row.{Page, sound, worn, lost, Row, read_at, write_at, filled_at}
use Rattle.device.specs.Calls.{DidRead, DidWrite}
use Rattle.device.proofs.Rows.{written-refused}

filled-refused : (o : Option Page) (old : List ℕ) → is_ok (read_at o) ≡ false → old ≡ filled_at o old
filled-refused None old h = refl
filled-refused (Some (sound bs)) old h = absurd (false≢true (sym h))
filled-refused (Some (worn w bs)) old h = absurd (false≢true (sym h))
filled-refused (Some (lost w)) old h = refl

module _ (n : ℕ) (r : Row) (page : ℕ) (a : Result (Unit {0}) Refusal) (no : is_ok a ≡ false) where
  pub refused-read : (old : List ℕ) → a ≡ read_at (r page) → DidRead n r page old a n r old
  refused-read old e = record { size = refl; row = λ k. refl; answer = e; buffer = filled-refused (r page) old (sym (ap is_ok e) ∙ no) }

  pub refused-write : (bytes : List ℕ) → a ≡ write_at (r page) → DidWrite n r page bytes a n r
  refused-write bytes e = record { size = refl; row = λ k. sym (written-refused r page bytes (sym (ap is_ok e) ∙ no) k); answer = e }
