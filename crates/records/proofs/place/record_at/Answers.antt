use Rattle.std.proofs.Common.{◌≡◌, ℕ, ◌/◌, ◌<◌, ◌≤◌, ltb, List, length, get_or, Option, IfSome, MatchOption, sym, subst, ap, ◌∙◌, arith}
use Rattle.std.proofs.lemmas.List.{take_all}
use Rattle.std.specs.Simd.{first_chunks}
use Rattle.records.specs.Layout.{record_in}
use Rattle.records.proofs.Places.{placed}
use Rattle.records.proofs.place.record_at.Goals as goal

pub returns : goal.returns
returns c =
    let page = c.args.page.now in
    let k = c.args.place in
    let full : length page / 32 ≡ 16 = omega arith in
    let many = c.as_chunks.ensures.front_len in
    let all = take_all 16 c.as_chunks.result.0.now (omega arith) in
    let records = all ∙ c.as_chunks.ensures.front ∙ ap (λ n. first_chunks 32 n page) full in
    let seen =
    placed page k c.get.result
    (c.get.ensures.lookup.0 ∙ ap (λ (xs : List (List ℕ)). ltb k (length xs)) all ∙ ap (λ (n : ℕ). ltb k n) (many ∙ full))
    (subst (λ (xs : List (List ℕ)). IfSome c.get.result (λ x. x.now ≡ get_or xs k x.now)) records c.get.ensures.lookup.1) in
    record {
      value = c.copied.ensures ∙ seen.0;
      cases = subst (λ (o : Option (List ℕ)). MatchOption o (16 ≤ k) (λ bytes. (k < 16) × (bytes ≡ record_in page k))) (sym c.copied.ensures) seen.1;
    }
