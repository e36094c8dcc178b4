use Rattle.std.proofs.Common.{◌≡◌, ℕ, ◌+◌, ◌-◌, ◌*◌, List, length, ap, ◌∙◌, arith, rules}
use borrow.Rule.Slice.PartMut.{put_mid}
use Rattle.ends.specs.Bytes.{pages_in, memory_row, tail_of}
use Rattle.std.proofs.lemmas.Bool.{cond-true, lt-ltb}
use Rattle.ends.proofs.Pages.{length-put, row_put, tail-put}
use Rattle.ends.proofs.memory.MemoryDevice.write.Goals as goal

pub returns : goal.returns
returns c =
    let bs = c.args.self.now.bytes.now in
    let page = c.args.page in
    let at = c.in_ok-at.ensures in
    let w : (c.in_ok-at.at + 512) - c.in_ok-at.at ≡ 512 = omega arith in
    -- what the slice holds after the copy
    let put : put_mid c.in_ok-at.at (c.in_ok-at.at + 512 - c.in_ok-at.at) bs c.copy_from_slice.new.self ≡ put_mid (page * 512) 512 bs c.args.bytes.now =
    ap (λ n. put_mid c.in_ok-at.at n bs c.copy_from_slice.new.self) w ∙ (λ i. put_mid (at.1 i) 512 bs (c.copy_from_slice.ensures.after i)) in
    record {
      did = record {
        size = ap (λ (x : List ℕ). pages_in (length x)) put ∙ ap pages_in (length-put bs c.args.bytes.now page at.0 c.told-bytes);
        row = λ k. ap (λ (x : List ℕ). memory_row x k) put ∙ row_put bs c.args.bytes.now page at.0 c.told-bytes k;
        answer = search (rules, cond-true, lt-ltb);
      };
      tail = ap tail_of put ∙ tail-put bs c.args.bytes.now page at.0 c.told-bytes;
      named = search rules;
    }
