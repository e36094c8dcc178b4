-- A page that is read between a fix and its unfix.
use Rattle.std.proofs.Common.{◌≡◌, ℕ, ◌+◌, List, length, take, drop, Some, None, Ok, Err, Option, Result, sym, refl, ap, ◌∙◌, subst, arith}
use Rattle.std.proofs.lemmas.List.{take_all}
use Rattle.std.proofs.lemmas.Bool.{le-leb}
use Rattle.page.specs.declared.refusal.Refusal.{Refusal}
use Rattle.device.specs.Row.{Page, sound, worn, lost, Row, read_at, filled_at}
use Rattle.device.specs.Shape.{Whole}
use Rattle.device.specs.declared.device.Device as device
use Rattle.policy.specs.declared.policy.Policy as policy
use Rattle.book.specs.Book.{Book, is_granted, refusal, grants}
use Rattle.book.specs.Bytes.{bytes_at}
use Rattle.book.specs.Call.{Answer}
use Rattle.book.specs.Call.Call.{Read, Unfix}
use Rattle.book.specs.Call.Answer.{Copied}
use Rattle.book.specs.declared.grant.Kind.{Kind}
use Rattle.book.specs.declared.grant.Kind.TheVariants.{Reading, Updating}
use Rattle.book.specs.declared.grant.Ticket.{Ticket}
use Rattle.pool.specs.Did.{Did, DidCopy, copied, given}
use Rattle.pool.specs.declared.grant.Grant.{Grant}
use Rattle.pool.specs.Meaning.{book, held}
use Rattle.pool.specs.declared.pool.Pool.{Pool}
use Rattle.pool.proofs.Doings.{says-accepted}
use Rattle.pool.proofs.Working.{two-yes}
use Rattle.cached.specs.Idle.{Idle}
use Rattle.cached.specs.Shown.{whole_shown}
use Rattle.cached.specs.Steps.{answer_at, DidReadThrough}
use Rattle.cached.specs.Through.{grant_of, Fixes, ReadThrough}
use Rattle.cached.proofs.Beginning.{Begun, begun}
use Rattle.cached.proofs.Granted.{Same, More, more, more-out, undone, answer-accepted, after-fix, after_unfix, unfix-yes}

-- an accepted read answered yes, and its bytes are those copied
copied_is : (r : Result (Unit {0}) Refusal) (new bytes : List ℕ) → copied r new ≡ Copied bytes → (r ≡ Ok tt) × (new ≡ bytes)
copied_is (Ok x) new bytes e = (refl, cc)
copied_is (Err x) new bytes e = let z : ◌≡◌ {A = ℕ} 0 1 = cc in absurd (omega arith)

-- what a readable page fills a buffer with does not depend on the buffer
filled_same : (o : Option Page) (x y : List ℕ) → read_at o ≡ Ok tt → filled_at o x ≡ filled_at o y
filled_same None x y h = let z : ◌≡◌ {A = ℕ} 0 1 = cc in absurd (omega arith)
filled_same (Some (sound bs)) x y h = refl
filled_same (Some (worn z bs)) x y h = refl
filled_same (Some (lost z)) x y h = let z : ◌≡◌ {A = ℕ} 0 1 = cc in absurd (omega arith)

-- a page that a device reads or writes has 512 bytes
pub whole-long : (kind : Kind) (o : Option Page) → Whole o → answer_at kind o ≡ Ok tt → length (bytes_at o) ≡ 512
whole-long Reading None w h = let z : ◌≡◌ {A = ℕ} 0 1 = cc in absurd (omega arith)
whole-long Reading (Some (sound bs)) w h = w
whole-long Reading (Some (worn x bs)) w h = w
whole-long Reading (Some (lost x)) w h = let z : ◌≡◌ {A = ℕ} 0 1 = cc in absurd (omega arith)
whole-long Updating None w h = let z : ◌≡◌ {A = ℕ} 0 1 = cc in absurd (omega arith)
whole-long Updating (Some (sound bs)) w h = w
whole-long Updating (Some (worn x bs)) w h = let z : ◌≡◌ {A = ℕ} 0 1 = cc in absurd (omega arith)
whole-long Updating (Some (lost x)) w h = let z : ◌≡◌ {A = ℕ} 0 1 = cc in absurd (omega arith)

-- what the book hears of a grant that was just given
pub told : {K : Type 0} {mark page : ℕ} (kind : Kind) (g : Grant K) → g ≡ given mark page → ◌≡◌ {A = Ticket} (record { kind = kind; mark = g.mark; page = g.page }) (record { kind = kind; mark = mark; page = page })
told {K} kind g e = ap (λ (x : Grant K). record { kind = kind; mark = x.mark; page = x.page }) e

-- grants put on and taken off again leave none out
pub none_left : (b b' : Book) → Same b b' → ((q : ℕ) → grants b q ≡ 0) → (q : ℕ) → grants b' q ≡ 0
none_left b b' s h q = (λ i. s.reading i q + s.updating i q) ∙ h q

module _ {D P : Type 0} {d : device.Ghosts D} {p : policy.Ghosts P} where
  -- After the fix: one grant is out, and the pages are the same.
  pub record Fixed (pool : Pool D P d p) (kind : Kind) (page : ℕ) (start fixed : Pool D P d p) : Type 0 where
    pub begun : Begun pool start
    pub more : More (book start) kind page (book fixed)
    pub size : (book fixed).size ≡ (book pool).size
    pub mark : fixed.mark ≡ pool.mark
    pub pages : (q : ℕ) → (book fixed).pages q ≡ (book pool).pages q

  pub after_fixes : (pool fixed : Pool D P d p) (kind : Kind) (page : ℕ) → Idle pool → (f : Fixes pool kind page fixed) → Fixed pool kind page f.start fixed
  after_fixes pool fixed kind page idle f =
      let b = begun pool f.start idle f.begins in
      let e = after-fix f.start fixed kind page _ f.fix in
      let m = more (book f.start) (book fixed) kind page _ e in
      record {
        begun = b;
        more = m;
        size = ap (λ (x : Book). x.size) e ∙ b.size;
        mark = m.mark ∙ b.mark;
        pages = λ q. ap (λ (f : Row). f q) m.pages ∙ b.pages q;
      }

  -- the whole page is copied
  whole : (one : Pool D P d p) (t : Ticket) (old new : List ℕ) (r : Result (Unit {0}) Refusal) → is_granted (book one) t.kind t.mark t.page ≡ None → length old ≡ 512 → length (bytes_at ((book one).pages t.page)) ≡ 512 → DidCopy one t 0 old r new → (r ≡ Ok tt) × (new ≡ bytes_at ((book one).pages t.page))
  whole one t old new r g l m h =
      let bs = bytes_at ((book one).pages t.page) in
      let yes-it : refusal (book one) (Read t 0 (length old)) ≡ None = two-yes _ _ g (le-leb (0 + length old) 512 (omega (arith, l))) in
      let w = copied_is r new (take (length old) (drop 0 bs)) (h.did.doing.step.answer ∙ sym (says-accepted (book one) (Read t 0 (length old)) yes-it)) in
      (w.0, w.1 ∙ take_all (length old) bs (omega (arith, l, m)))

  pub page_long : (pool : Pool D P d p) (kind : Kind) (page : ℕ) → answer_at kind ((book pool).pages page) ≡ Ok tt → length (bytes_at ((book pool).pages page)) ≡ 512
  page_long pool kind page h = whole-long kind ((book pool).pages page) (whole_shown (held pool page) (d.row pool.device page) (pool.tied.stands page) ((d.shaped pool.device).whole page)) h

  pub read_page : (pool fixed pool' : Pool D P d p) (page : ℕ) (t : Ticket) (old new : List ℕ) (r : Result (Unit {0}) Refusal) (a : Answer) → Idle pool → answer_at Reading ((book pool).pages page) ≡ Ok tt → length (bytes_at ((book pool).pages page)) ≡ 512 → Fixes pool Reading page fixed → t ≡ grant_of pool Reading page → length old ≡ 512 → DidCopy fixed t 0 old r new → Did fixed (Unfix t) a pool' → DidReadThrough pool page old r pool' new
  read_page pool fixed pool' page t old new r a idle ok m f eg l h2 h3 =
      let it = grant_of pool Reading page in
      let x = after_fixes pool fixed Reading page idle f in
      let bs = book f.start in
      let bf = book fixed in
      let C : Ticket → Type 0 = λ v. DidCopy fixed v 0 old r new in
      let U : Ticket → Type 0 = λ v. Did fixed (Unfix v) a pool' in
      let copy = subst C eg h2 in
      let unfix = subst U eg h3 in
      let same : Same bf bf = record { mark = refl; reading = refl; updating = refl } in
      let G : ℕ → Type 0 = λ v. is_granted bf Reading v page ≡ None in
      let out = subst G x.begun.mark (more-out bs bf bf Reading page x.more same) in
      let w = whole fixed it old new r out l (ap (λ (o : Option Page). length (bytes_at o)) (x.pages page) ∙ m) copy in
      let after = after_unfix fixed pool' it a unfix out in
      let u = undone bs bf bf (book pool') Reading page x.more same after in
      let done = answer-accepted fixed pool' (Unfix it) a unfix (unfix-yes fixed it out) in
      let R : Result (Unit {0}) Refusal → Type 0 = λ v. ReadThrough pool page old v pool' new in
      let Y : Result (Unit {0}) Refusal → Type 0 = λ v. DidCopy fixed it 0 old v new in
      let V : Answer → Type 0 = λ v. Did fixed (Unfix it) v pool' in
      record {
        idle = none_left bs (book pool') u.0 x.begun.idle;
        did = record {
          size = ap (λ (v : Book). v.size) after ∙ x.size;
          row = λ q. ap (λ (v : Row). v q) u.1 ∙ x.pages q;
          answer = w.0 ∙ sym ok;
          buffer = w.1 ∙ ap bytes_at (x.pages page) ∙ filled_same ((book pool).pages page) _ old ok;
        };
        through = subst R (sym w.0) (record { fixed = fixed; fixes = f; copy = subst Y w.0 copy; unfix = subst V done unfix });
      }
