-- What a layer passes on of a page that lies below.
use Rattle.std.proofs.Common.{◌≡◌, ℕ, List, IsErrAnd, Some, None, Err, Option, Result, sym, refl, ap, ◌∙◌}
use Rattle.std.proofs.lemmas.Result.{err_from_is_err_and}
use Rattle.page.specs.declared.refusal.Refusal.{Refusal}
use Rattle.page.specs.declared.refusal.Refusal.TheVariants.{NoSuchPage}
use Rattle.page.specs.Raise.{raised_result}
use Rattle.device.specs.Row.{Page, sound, worn, lost, read_at, write_at, filled_at, over_at, up_at}

pub read_up : (o : Option Page) → read_at (up_at o) ≡ raised_result (read_at o)
read_up None = refl
read_up (Some (sound bs)) = refl
read_up (Some (worn w bs)) = refl
read_up (Some (lost w)) = refl

pub write_up : (o : Option Page) → write_at (up_at o) ≡ raised_result (write_at o)
write_up None = refl
write_up (Some (sound bs)) = refl
write_up (Some (worn w bs)) = refl
write_up (Some (lost w)) = refl

pub filled_up : (o : Option Page) (old : List ℕ) → filled_at (up_at o) old ≡ filled_at o old
filled_up None old = refl
filled_up (Some (sound bs)) old = refl
filled_up (Some (worn w bs)) old = refl
filled_up (Some (lost w)) old = refl

pub over_up : (o : Option Page) (new : List ℕ) → up_at (over_at o new) ≡ over_at (up_at o) new
over_up None new = refl
over_up (Some (sound bs)) new = refl
over_up (Some (worn w bs)) new = refl
over_up (Some (lost w)) new = refl

-- the exit of a `?` returns the error as it was: what was passed on, or that there is no such page
pub exit_passed : {A : Type 0} (r d : Result A Refusal) (e : Refusal) → IsErrAnd r (λ y. y ≡ e) → d ≡ Err e → r ≡ d
exit_passed r d e h was = let p = err_from_is_err_and r h in p.1 ∙ ap Err p.2 ∙ sym was

pub exit_none : {A : Type 0} (r : Result A Refusal) (e : Refusal) → IsErrAnd r (λ y. y ≡ e) → e ≡ NoSuchPage → r ≡ Err NoSuchPage
exit_none r e h is = let p = err_from_is_err_and r h in p.1 ∙ ap Err (p.2 ∙ is)
