-- What a write of one page into bytes leaves: that page, every other page, and the tail.
use Rattle.std.proofs.Common.{◌≡◌, ℕ, ◌+◌, ◌-◌, ◌*◌, ◌<◌, Bool, true, false, cond, eqb, ltb, List, length, take, drop, Some, None, sym, refl, ap, ◌∙◌, arith, length-append, length-drop, length-take, ltb-false, ltb-true, eqb-true}
use borrow.Author.Tests.{eqb-false}
use borrow.Rule.Slice.PartMut.{put_mid}
use Rattle.std.proofs.lemmas.List.{drop-take}
use Rattle.std.proofs.lemmas.Slice.{take-put_mid_below, drop-put_mid, between-put_mid}
use Rattle.device.specs.Row.{sound, written, over_at}
use Rattle.ends.specs.Bytes.{pages_in, page_of, tail_of, memory_row}

module _ (bs new : List ℕ) (p : ℕ) (h : p < pages_in (length bs)) (e : length new ≡ 512) where
  pub length-put : length (put_mid (p * 512) 512 bs new) ≡ length bs
  length-put = simp (length-append, length-take, length-drop) (omega arith)

  here : page_of (put_mid (p * 512) 512 bs new) p ≡ new
  here =
      let w : 512 ≡ (p * 512 + 512) - p * 512 = omega arith in
      ap (λ n. take n (drop (p * 512) (put_mid (p * 512) 512 bs new))) w
      ∙ between-put_mid (p * 512) 512 bs new (p * 512 + 512) (omega arith) (omega arith)

  before : (k : ℕ) → k < p → page_of (put_mid (p * 512) 512 bs new) k ≡ page_of bs k
  before k l =
      sym (drop-take (k * 512) 512 (put_mid (p * 512) 512 bs new))
      ∙ ap (drop (k * 512)) (take-put_mid_below (p * 512) 512 bs new (k * 512 + 512) (omega arith) (omega arith))
      ∙ drop-take (k * 512) 512 bs

  -- from a page after the one written on, all bytes are as they were
  rest : (k : ℕ) → p < k → drop (k * 512) (put_mid (p * 512) 512 bs new) ≡ drop (k * 512) bs
  rest k l = drop-put_mid (p * 512) 512 bs new (k * 512) (omega arith) (omega arith) e

  apart : (k : ℕ) → (k ≡ p → ⊥) → (b : Bool) → ltb k p ≡ b → page_of (put_mid (p * 512) 512 bs new) k ≡ page_of bs k
  apart k n true t = before k (ltb-true k p t)
  apart k n false t = ap (take 512) (rest k (omega (arith, ltb-false k p t)))

  at_each : (k : ℕ) (b c : Bool) → eqb k p ≡ c → cond b (Some (sound (page_of (put_mid (p * 512) 512 bs new) k))) None ≡ cond c (over_at (cond b (Some (sound (page_of bs k))) None) new) (cond b (Some (sound (page_of bs k))) None)
  at_each k true true u = ap (λ j. Some (sound (page_of (put_mid (p * 512) 512 bs new) j))) (eqb-true k p u) ∙ ap (λ x. Some (sound x)) here
  at_each k true false u = ap (λ x. Some (sound x)) (apart k (eqb-false k p u) (ltb k p) refl)
  at_each k false true u = refl
  at_each k false false u = refl

  pub row_put : (k : ℕ) → memory_row (put_mid (p * 512) 512 bs new) k ≡ written (memory_row bs) p new k
  row_put k =
      ap (λ n. cond (ltb k (pages_in n)) (Some (sound (page_of (put_mid (p * 512) 512 bs new) k))) None) length-put
      ∙ at_each k (ltb k (pages_in (length bs))) (eqb k p) refl

  pub tail-put : tail_of (put_mid (p * 512) 512 bs new) ≡ tail_of bs
  tail-put = ap (λ n. drop (pages_in n * 512) (put_mid (p * 512) 512 bs new)) length-put ∙ rest (pages_in (length bs)) h
