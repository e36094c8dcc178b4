-- From a page of the pile down to the device that it lies on.
use Rattle.std.proofs.Common.{◌≡◌, ℕ, ◌+◌, ◌-◌, ◌<◌, ◌≤◌, true, cond, ltb, is_some, Some, None, Err, Option, refl, ap, ◌∙◌, arith}
use Rattle.std.proofs.lemmas.Bool.{cond-true, cond-false, lt-ltb, le-ltb, false≢true}
use Rattle.page.specs.declared.refusal.Refusal.TheVariants.{NoSuchPage, LostPage}
use Rattle.page.specs.Raise.{raised_result}
use Rattle.device.specs.Row.{Page, Row, write_at, up_at}
use Rattle.device.specs.Shape.{Shaped}
use Rattle.device.proofs.Passing.{write_up}
use Rattle.layers.specs.Join.{join_row}
use Rattle.layers.specs.Window.{window_row}
use Rattle.defects.specs.declared.mark.Defect.{Defect}
use Rattle.defects.specs.declared.mark.Defect.TheVariants.{Lost}
use Rattle.defects.specs.Defects.{Marks, mark_of, marked_at, defect_row}
use Rattle.piles.specs.Told.{twice, thrice}

unmarked_is : (k : ℕ) (o : Option Page) → marked_at None k o ≡ o
unmarked_is k None = refl
unmarked_is k (Some p) = refl

lost_is : (k : ℕ) (o : Option Page) → is_some o ≡ true → write_at (up_at (up_at (marked_at (Some Lost) k (up_at o)))) ≡ Err (LostPage (record { page = k; depth = 2 }))
lost_is k None h = absurd (false≢true h)
lost_is k (Some p) h = refl

module _ (f l n : ℕ) (ms : Marks) (r t : Row) (p : ℕ) where
  pub past_end : l ≤ p → write_at (window_row f l (join_row n (defect_row ms r) t) p) ≡ Err NoSuchPage
  past_end h = ap write_at (cond-false (ltb p l) _ None (le-ltb p l h))

  module _ (h : p < l) where
    shown : window_row f l (join_row n (defect_row ms r) t) p ≡ up_at (join_row n (defect_row ms r) t (f + p))
    shown = cond-true (ltb p l) _ None (lt-ltb p l h)

    joined : f + p < 4294967295 → join_row n (defect_row ms r) t (f + p) ≡ up_at (cond (ltb (f + p) n) (defect_row ms r (f + p)) (t (f + p - n)))
    joined m = cond-true (ltb (f + p) 4294967295) _ None (lt-ltb (f + p) 4294967295 m)

    under : (s : Shaped n r) → f + p < n → window_row f l (join_row n (defect_row ms r) t) p ≡ up_at (up_at (defect_row ms r (f + p)))
    under s i = let few = s.few in shown ∙ ap up_at (joined (omega arith) ∙ ap up_at (cond-true (ltb (f + p) n) _ (t (f + p - n)) (lt-ltb (f + p) n i)))

    pub marked-lost : (s : Shaped n r) → f + p < n → mark_of ms (f + p) ≡ Some Lost → write_at (window_row f l (join_row n (defect_row ms r) t) p) ≡ Err (LostPage (record { page = f + p; depth = 2 }))
    marked-lost s i e =
        ap write_at (under s i)
        ∙ ap (λ (m : Option Defect). write_at (up_at (up_at (marked_at m (f + p) (up_at (r (f + p))))))) e
        ∙ lost_is (f + p) (r (f + p)) (s.exact (f + p) ∙ lt-ltb (f + p) n i)

    pub unmarked-below : (s : Shaped n r) → f + p < n → mark_of ms (f + p) ≡ None → write_at (window_row f l (join_row n (defect_row ms r) t) p) ≡ thrice (write_at (r (f + p)))
    unmarked-below s i e =
        ap write_at (under s i)
        ∙ ap (λ (m : Option Defect). write_at (up_at (up_at (marked_at m (f + p) (up_at (r (f + p))))))) e
        ∙ ap (λ o. write_at (up_at (up_at o))) (unmarked_is (f + p) (up_at (r (f + p))))
        ∙ write_up (up_at (up_at (r (f + p))))
        ∙ ap raised_result (write_up (up_at (r (f + p))) ∙ ap raised_result (write_up (r (f + p))))

    pub other-below : n ≤ f + p → f + p < 4294967295 → write_at (window_row f l (join_row n (defect_row ms r) t) p) ≡ twice (write_at (t (f + p - n)))
    other-below i m =
        ap write_at (shown ∙ ap up_at (joined m ∙ ap up_at (cond-false (ltb (f + p) n) (defect_row ms r (f + p)) _ (le-ltb (f + p) n i))))
        ∙ write_up (up_at (t (f + p - n)))
        ∙ ap raised_result (write_up (t (f + p - n)))
