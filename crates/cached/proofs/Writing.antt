-- A page that is written between a fix and its unfix.
use Rattle.std.proofs.Common.{◌≡◌, ℕ, ◌+◌, ◌≤◌, cond, eqb, List, [], ◌∷◌, ◌++◌, length, take, drop, None, Ok, Err, Option, Result, sym, refl, ap, ◌∙◌, subst, arith}
use Rattle.std.proofs.lemmas.List.{append-nil, drop_all}
use Rattle.page.specs.declared.refusal.Refusal.{Refusal}
use Rattle.device.specs.Row.{Page, Row, written, over_at}
use Rattle.device.specs.declared.device.Device as device
use Rattle.policy.specs.declared.policy.Policy as policy
use Rattle.book.specs.Book.{Book, is_granted}
use Rattle.book.specs.Bytes.{bytes_at, patched}
use Rattle.book.specs.Call.{Answer}
use Rattle.book.specs.Call.Call.{Write, Unfix}
use Rattle.book.specs.Call.Answer.{Done}
use Rattle.book.specs.declared.grant.Kind.TheVariants.{Updating}
use Rattle.book.specs.declared.grant.Ticket.{Ticket}
use Rattle.pool.specs.Did.{Did, done}
use Rattle.pool.specs.Meaning.{book}
use Rattle.pool.specs.declared.pool.Pool.{Pool}
use Rattle.cached.specs.Idle.{Idle}
use Rattle.cached.specs.Steps.{answer_at, DidWriteThrough}
use Rattle.cached.specs.Through.{grant_of, Fixes, WriteThrough}
use Rattle.cached.proofs.Granted.{Same, more-out, undone, answer-accepted, after_write, after_unfix, write-yes, unfix-yes}
use Rattle.cached.proofs.Reading.{none_left, after_fixes}

-- a write that was accepted answered yes
done_is : (r : Result (Unit {0}) Refusal) → done r ≡ Done → r ≡ Ok tt
done_is (Ok x) e = refl
done_is (Err x) e = let z : ◌≡◌ {A = ℕ} 0 1 = cc in absurd (omega arith)

take_none : (xs : List ℕ) → take 0 xs ≡ []
take_none [] = refl
take_none (x ∷ xs) = refl

-- a whole page of new bytes
all-patched : (new old : List ℕ) → length new ≡ 512 → length old ≡ 512 → patched 0 new old ≡ new
all-patched new old l m =
    ap (λ (v : List ℕ). v ++ (new ++ drop (0 + length new) old)) (take_none old)
    ∙ ap (λ (v : List ℕ). new ++ v) (drop_all (0 + length new) old (omega (arith, l, m)))
    ∙ append-nil new

module _ {D P : Type 0} {d : device.Ghosts D} {p : policy.Ghosts P} where
  pub write_page : (pool fixed wrote pool' : Pool D P d p) (page : ℕ) (t : Ticket) (bytes : List ℕ) (r : Result (Unit {0}) Refusal) (a : Answer) → Idle pool → answer_at Updating ((book pool).pages page) ≡ Ok tt → length (bytes_at ((book pool).pages page)) ≡ 512 → Fixes pool Updating page fixed → t ≡ grant_of pool Updating page → length bytes ≡ 512 → Did fixed (Write t.mark t.page 0 bytes) (done r) wrote → Did wrote (Unfix t) a pool' → DidWriteThrough pool page bytes r pool'
  write_page pool fixed wrote pool' page t bytes r a idle ok m f eg l h2 h3 =
      let it = grant_of pool Updating page in
      let x = after_fixes pool fixed Updating page idle f in
      let bs = book f.start in
      let bf = book fixed in
      let bw = book wrote in
      let W : Ticket → Type 0 = λ v. Did fixed (Write v.mark v.page 0 bytes) (done r) wrote in
      let U : Ticket → Type 0 = λ v. Did wrote (Unfix v) a pool' in
      let write = subst W eg h2 in
      let unfix = subst U eg h3 in
      let still : Same bf bf = record { mark = refl; reading = refl; updating = refl } in
      let G : Book → ℕ → Type 0 = λ b v. is_granted b Updating v page ≡ None in
      let out = subst (G bf) x.begun.mark (more-out bs bf bf Updating page x.more still) in
      let fits : 0 + length bytes ≤ 512 = omega (arith, l) in
      let after = after_write fixed wrote pool.mark page 0 bytes (done r) write out fits in
      let yes_it = done_is r (answer-accepted fixed wrote (Write pool.mark page 0 bytes) (done r) write (write-yes fixed pool.mark page 0 bytes out fits)) in
      let same : Same bf bw = record { mark = ap (λ (v : Book). v.mark) after; reading = ap (λ (v : Book). v.reading) after; updating = ap (λ (v : Book). v.updating) after } in
      let still_out = subst (G bw) x.begun.mark (more-out bs bf bw Updating page x.more same) in
      let last = after_unfix wrote pool' it a unfix still_out in
      let u = undone bs bf bw (book pool') Updating page x.more same last in
      let given_back = answer-accepted wrote pool' (Unfix it) a unfix (unfix-yes wrote it still_out) in
      let new_bytes : patched 0 bytes (bytes_at (bf.pages page)) ≡ bytes = all-patched bytes (bytes_at (bf.pages page)) l (ap (λ (o : Option Page). length (bytes_at o)) (x.pages page) ∙ m) in
      let R : Result (Unit {0}) Refusal → Type 0 = λ v. WriteThrough pool page bytes v pool' in
      let Z : Result (Unit {0}) Refusal → Type 0 = λ v. Did fixed (Write pool.mark page 0 bytes) (done v) wrote in
      let V : Answer → Type 0 = λ v. Did wrote (Unfix it) v pool' in
      record {
        idle = none_left bs (book pool') u.0 x.begun.idle;
        did = record {
          size = ap (λ (v : Book). v.size) last ∙ ap (λ (v : Book). v.size) after ∙ x.size;
          row = λ q.
              ap (λ (v : Row). v q) u.1
              ∙ ap (λ (v : Book). v.pages q) after
              ∙ ap (λ (v : List ℕ). written bf.pages page v q) new_bytes
              ∙ ap (λ (o : Option Page). cond (eqb q page) (over_at o bytes) o) (x.pages q);
          answer = yes_it ∙ sym ok;
        };
        through = subst R (sym yes_it) (record { fixed = fixed; fixes = f; wrote = wrote; write = subst Z yes_it write; unfix = subst V given_back unfix });
      }
