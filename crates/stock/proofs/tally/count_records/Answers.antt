use Rattle.std.proofs.Common.{◌≡◌, ℕ, List, [], ◌/◌, length, get_or, ap, ◌∙◌, arith}
use Rattle.std.proofs.lemmas.List.{take_all}
use Rattle.std.specs.Simd.{first_chunks}
use Rattle.stock.specs.Entries.{entry_of}
use Rattle.stock.proofs.Counts.{counted_more, counted_all}
use Rattle.stock.proofs.tally.count_records.Goals as goal

pub loop-record-preserved : goal.loop-record-preserved
loop-record-preserved c =
    let page = c.args.page.now in
    let i = c.loop-record.record-index in
    let full : length page / 32 ≡ 16 = omega arith in
    let many = c.as_chunks.ensures.front_len in
    let all = take_all 16 c.as_chunks.result.0.now (omega (arith, many, full)) in
    let few = ap (λ (xs : List (List ℕ)). length xs) all in
    let records = all ∙ c.as_chunks.ensures.front ∙ ap (λ n. first_chunks 32 n page) full in
    counted_more c.args.book page i c.loop-record.tally _ c.entry_of.result c.loop-record.invariant (omega (arith, few, many, full))
    (c.entry_of.ensures ∙ ap (λ (xs : List (List ℕ)). entry_of c.args.book (get_or xs i [])) records)
    c.with-tally.ensures.more c.with-tally.ensures.bound

pub returns : goal.returns
returns c =
    let many = c.as_chunks.ensures.front_len in
    let few = ap (λ (xs : List (List ℕ)). length xs) (take_all 16 c.as_chunks.result.0.now (omega arith)) in
    counted_all c.args.book c.args.page.now c.loop-record.record-index c.loop-record.tally c.loop-record.invariant (omega (arith, few, many))
