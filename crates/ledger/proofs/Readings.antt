-- A page that is read between a fix and its unfix.
use Rattle.std.proofs.Common.{◌≡◌, ℕ, ◌+◌, true, List, length, take, drop, is_some, Some, None, Ok, Err, Option, Result, sym, refl, ap, ◌∙◌, subst, arith}
use Rattle.std.proofs.lemmas.List.{take_all}
use Rattle.std.proofs.lemmas.Bool.{le-leb, lt-ltb, false≢true}
use Rattle.page.specs.declared.refusal.Refusal.{Refusal}
use Rattle.device.specs.Row.{Page, sound, worn, lost, Row}
use Rattle.device.specs.Shape.{Whole}
use Rattle.device.specs.declared.device.Device as device
use Rattle.policy.specs.declared.policy.Policy as policy
use Rattle.book.specs.Book.{is_granted, refusal, is_not_lost}
use Rattle.book.specs.Bytes.{bytes_at}
use Rattle.book.specs.Call.{Answer}
use Rattle.book.specs.Call.Call.{Fix, Read, Unfix}
use Rattle.book.specs.Call.Answer.{Granted, Copied, Refused}
use Rattle.book.specs.declared.grant.Kind.TheVariants.{Reading}
use Rattle.book.specs.declared.grant.Ticket.{Ticket}
use Rattle.pool.specs.Did.{Did, DidCopy, copied, given}
use Rattle.pool.specs.declared.grant.Grant.{Grant}
use Rattle.frames.specs.Table.{Frame}
use Rattle.pool.specs.Meaning.{book, held, shown}
use Rattle.pool.specs.Tied.{Stands}
use Rattle.pool.specs.Steps.{verdict}
use Rattle.pool.specs.declared.pool.Pool.{Pool}
use Rattle.book.proofs.Asked.{fixed}
use Rattle.pool.proofs.Asking.{lost-shown}
use Rattle.pool.proofs.Doings.{says-accepted}
use Rattle.pool.proofs.Working.{two-yes}
use Rattle.ledger.specs.Reading.{Filled, DidReadPage, after_reading}
use Rattle.ledger.proofs.Granted.{Same, more, more-out, undone, undone_reading, fix-accepted, fix-refused, after-fix, after-refusal, after_unfix}

-- an accepted read answered yes, and its bytes are those copied
copied_is : (r : Result (Unit {0}) Refusal) (new bytes : List ℕ) → copied r new ≡ Copied bytes → (r ≡ Ok tt) × (new ≡ bytes)
copied_is (Ok x) new bytes e = (refl, cc)
copied_is (Err x) new bytes e = let z : ◌≡◌ {A = ℕ} 0 1 = cc in absurd (omega arith)

-- a page that may be fixed has 512 bytes
long-shown : (o : Option Frame) (r : Option Page) → Stands o r → Whole r → is_some r ≡ true → is_not_lost r ≡ None → length (bytes_at (shown o r)) ≡ 512
long-shown o None h w e l = absurd (false≢true e)
long-shown None (Some (sound bs)) h w e l = w
long-shown None (Some (worn x bs)) h w e l = w
long-shown (Some f) (Some (sound bs)) h w e l = h.0
long-shown (Some f) (Some (worn x bs)) h w e l = w
long-shown o (Some (lost x)) h w e l = let z : ◌≡◌ {A = ℕ} 0 1 = cc in absurd (omega arith)

-- What a grant to read a page is told as.
abbrev pub for_reading : ℕ → ℕ → Ticket
for_reading mark page = record { kind = Reading; mark = mark; page = page }

pub told : {K : Type 0} {mark page : ℕ} (g : Grant K) → g ≡ given mark page → ◌≡◌ {A = Ticket} (record { kind = Reading; mark = g.mark; page = g.page }) (for_reading mark page)
told {K} g e = ap (λ (x : Grant K). record { kind = Reading; mark = x.mark; page = x.page }) e

module _ {D P : Type 0} {d : device.Ghosts D} {p : policy.Ghosts P} where
  pub read-refused : (pool pool' : Pool D P d p) (page : ℕ) (old : List ℕ) (r : Refusal) → Did pool (Fix Reading page) (Refused r) pool' → DidReadPage pool page old (Err r) pool' old
  read-refused pool pool' page old r h =
      let e = after-refusal pool pool' Reading page r h in
      record {
        grants = record { reading = λ q. ap (λ (k : Pool D P d p). (book k).reading q) e; updating = λ q. ap (λ (k : Pool D P d p). (book k).updating q) e };
        pages = λ q. ap (λ (k : Pool D P d p). (book k).pages q) e;
        answer = ap verdict (sym (fix-refused (book pool) Reading page r h.doing.step.answer));
        buffer = refl;
        next = ap (λ (k : Pool D P d p). book k) e ∙ ap (after_reading (book pool)) (sym (fix-refused (book pool) Reading page r h.doing.step.answer));
      }

  pub page-long : (pool : Pool D P d p) (page : ℕ) → refusal (book pool) (Fix Reading page) ≡ None → length (bytes_at ((book pool).pages page)) ≡ 512
  page-long pool page e =
      let f = fixed (book pool) Reading page e in
      let shape = d.shaped pool.device in
      let row = d.row pool.device page in
      long-shown (held pool page) row (pool.tied.stands page) (shape.whole page) (shape.exact page ∙ lt-ltb page (d.size pool.device) f.there) (sym (lost-shown (held pool page) row) ∙ f.not_lost)

  -- the whole page is copied
  whole : (one : Pool D P d p) (t : Ticket) (old new : List ℕ) (r : Result (Unit {0}) Refusal) → is_granted (book one) t.kind t.mark t.page ≡ None → length old ≡ 512 → length (bytes_at ((book one).pages t.page)) ≡ 512 → DidCopy one t 0 old r new → (r ≡ Ok tt) × (new ≡ bytes_at ((book one).pages t.page))
  whole one t old new r g l m h =
      let bs = bytes_at ((book one).pages t.page) in
      let yes-it : refusal (book one) (Read t 0 (length old)) ≡ None = two-yes _ _ g (le-leb (0 + length old) 512 (omega (arith, l))) in
      let w = copied_is r new (take (length old) (drop 0 bs)) (h.did.doing.step.answer ∙ sym (says-accepted (book one) (Read t 0 (length old)) yes-it)) in
      (w.0, w.1 ∙ take_all (length old) bs (omega (arith, l, m)))

  pub read_whole : (pool one pool' : Pool D P d p) (page : ℕ) (t tk : Ticket) (old new : List ℕ) (r : Result (Unit {0}) Refusal) (a : Answer) → tk ≡ for_reading (book pool).mark page → length old ≡ 512 → length (bytes_at ((book pool).pages page)) ≡ 512 → Did pool (Fix Reading page) (Granted t) one → DidCopy one tk 0 old r new → Did one (Unfix tk) a pool' → DidReadPage pool page old r pool' new
  read_whole pool one pool' page t tk old new r a eg l m h1 h2 h3 =
      let fix = after-fix pool one Reading page t h1 in
      let k = more (book pool) (book one) Reading page _ fix in
      let same : Same (book one) (book one) = record { mark = refl; reading = refl; updating = refl } in
      let out = more-out (book pool) (book one) (book one) Reading page k same in
      let it = for_reading (book pool).mark page in
      let C : Ticket → Type 0 = λ x. DidCopy one x 0 old r new in
      let U : Ticket → Type 0 = λ x. Did one (Unfix x) a pool' in
      let w = whole one it old new r out l (ap (λ (f : Row). length (bytes_at (f page))) k.pages ∙ m) (subst C eg h2) in
      let unfix = after_unfix one pool' it a (subst U eg h3) out in
      let u = undone (book pool) (book one) (book one) (book pool') Reading page k same unfix in
      let yes_it = fix-accepted (book pool) Reading page t h1.doing.step.answer in
      let after : (book pool').pages ≡ (book pool).pages = u.1 ∙ k.pages in
      let B : Result (Unit {0}) Refusal → Type 0 = λ x. Filled x (bytes_at ((book pool).pages page)) old new in
      record {
        grants = record { reading = λ q. ap (λ (f : ℕ → ℕ). f q) u.0.reading; updating = λ q. ap (λ (f : ℕ → ℕ). f q) u.0.updating };
        pages = λ q. ap (λ (f : Row). f q) after;
        answer = w.0 ∙ ap verdict (sym yes_it);
        buffer = subst B (sym w.0) (w.1 ∙ ap (λ (f : Row). bytes_at (f page)) k.pages);
        next = undone_reading (book pool) (book one) (book pool') page _ fix unfix ∙ ap (after_reading (book pool)) (sym yes_it);
      }
