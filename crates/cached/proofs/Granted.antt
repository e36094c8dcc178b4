-- What the calls of a pool leave, by its book.
use Rattle.std.proofs.Common.{◌≡◌, ℕ, ◌+◌, ◌-◌, ◌≤◌, eqb, List, [], ◌∷◌, length, Some, None, Option, sym, refl, ap, ◌∙◌, inl, inr, arith}
use Rattle.std.proofs.lemmas.Bool.{cases_eq, cond-true, cond-false, eq-eqb, ne_eqb, le-leb}
use Rattle.page.specs.declared.refusal.Refusal.{Refusal}
use Rattle.device.specs.declared.device.Device as device
use Rattle.policy.specs.declared.policy.Policy as policy
use Rattle.book.specs.Book.{Book, by_kind, put, granted, is_granted, first_no, refusal, accepted, decided, says, with_grants}
use Rattle.book.specs.Call.{Call, Answer}
use Rattle.book.specs.Call.Call.{Fix, Write, Unfix}
use Rattle.book.specs.Call.Answer.{Granted, Refused}
use Rattle.book.specs.declared.grant.Kind.{Kind}
use Rattle.book.specs.declared.grant.Kind.TheVariants.{Reading, Updating}
use Rattle.book.specs.declared.grant.Ticket.{Ticket}
use Rattle.pool.specs.Did.{Did}
use Rattle.pool.specs.Meaning.{book}
use Rattle.pool.specs.declared.pool.Pool.{Pool}
use Rattle.pool.proofs.Doings.{next-accepted, says-accepted}
use Rattle.pool.proofs.Granting.{grant-yes}
use Rattle.pool.proofs.Working.{two-yes}

-- a fix that was answered by a grant was accepted, and one that was refused was not
pub fix-accepted : (b : Book) (kind : Kind) (page : ℕ) (t : Ticket) → Granted t ≡ says b (Fix kind page) → refusal b (Fix kind page) ≡ None
fix-accepted b kind page t h = go (refusal b (Fix kind page)) h
  where
    go : (o : Option Refusal) → Granted t ≡ (decided b o (accepted b (Fix kind page))).0 → o ≡ None
    go None e = refl
    go (Some r) e = let z : ◌≡◌ {A = ℕ} 0 1 = cc in absurd (omega arith)

pub fix-refused : (b : Book) (kind : Kind) (page : ℕ) (r : Refusal) → Refused r ≡ says b (Fix kind page) → refusal b (Fix kind page) ≡ Some r
fix-refused b kind page r h = go (refusal b (Fix kind page)) h
  where
    go : (o : Option Refusal) → Refused r ≡ (decided b o (accepted b (Fix kind page))).0 → o ≡ Some r
    go None e = let z : ◌≡◌ {A = ℕ} 0 1 = cc in absurd (omega arith)
    go (Some x) e = cc

module _ {D P : Type 0} {d : device.Ghosts D} {p : policy.Ghosts P} where
  after-accepted : (pool pool' : Pool D P d p) (call : Call) (a : Answer) → Did pool call a pool' → refusal (book pool) call ≡ None → book pool' ≡ (accepted (book pool) call).1
  after-accepted pool pool' call a h e = h.doing.step.after ∙ sym (next-accepted (book pool) call e)

  pub answer-accepted : (pool pool' : Pool D P d p) (call : Call) (a : Answer) → Did pool call a pool' → refusal (book pool) call ≡ None → a ≡ (accepted (book pool) call).0
  answer-accepted pool pool' call a h e = h.doing.step.answer ∙ sym (says-accepted (book pool) call e)

  pub after-fix : (pool pool' : Pool D P d p) (kind : Kind) (page : ℕ) (t : Ticket) → Did pool (Fix kind page) (Granted t) pool' → book pool' ≡ with_grants (book pool) (pool.clock + 1) kind page (granted (book pool) kind page + 1)
  after-fix pool pool' kind page t h = after-accepted pool pool' (Fix kind page) (Granted t) h (fix-accepted (book pool) kind page t h.doing.step.answer)

  pub after-refusal : (pool pool' : Pool D P d p) (kind : Kind) (page : ℕ) (r : Refusal) → Did pool (Fix kind page) (Refused r) pool' → pool' ≡ pool
  after-refusal pool pool' kind page r h = h.refused r (fix-refused (book pool) kind page r h.doing.step.answer)

  pub write-yes : (pool : Pool D P d p) (mark page offset : ℕ) (bytes : List ℕ) → is_granted (book pool) Updating mark page ≡ None → offset + length bytes ≤ 512 → refusal (book pool) (Write mark page offset bytes) ≡ None
  write-yes pool mark page offset bytes g l = two-yes _ _ g (le-leb (offset + length bytes) 512 l)

  pub unfix-yes : (pool : Pool D P d p) (t : Ticket) → is_granted (book pool) t.kind t.mark t.page ≡ None → refusal (book pool) (Unfix t) ≡ None
  unfix-yes pool t g = ap (λ (x : Option Refusal). first_no (x ∷ [])) g

  pub after_write : (pool pool' : Pool D P d p) (mark page offset : ℕ) (bytes : List ℕ) (a : Answer) → Did pool (Write mark page offset bytes) a pool' → is_granted (book pool) Updating mark page ≡ None → offset + length bytes ≤ 512 → book pool' ≡ (accepted (book pool) (Write mark page offset bytes)).1
  after_write pool pool' mark page offset bytes a h g l = after-accepted pool pool' (Write mark page offset bytes) a h (write-yes pool mark page offset bytes g l)

  pub after_unfix : (pool pool' : Pool D P d p) (t : Ticket) (a : Answer) → Did pool (Unfix t) a pool' → is_granted (book pool) t.kind t.mark t.page ≡ None → book pool' ≡ (accepted (book pool) (Unfix t)).1
  after_unfix pool pool' t a h g = after-accepted pool pool' (Unfix t) a h (unfix-yes pool t g)

-- Books with the same grants out.
pub record Same (b b' : Book) : Type 0 where
  pub mark : b'.mark ≡ b.mark
  pub reading : b'.reading ≡ b.reading
  pub updating : b'.updating ≡ b.updating

-- One grant of a kind more, for a page.
pub record More (b : Book) (kind : Kind) (page : ℕ) (b' : Book) : Type 0 where
  pub mark : b'.mark ≡ b.mark
  pub reading : b'.reading ≡ by_kind kind (put b.reading page (b.reading page + 1)) b.reading
  pub updating : b'.updating ≡ by_kind kind b.updating (put b.updating page (b.updating page + 1))
  pub pages : b'.pages ≡ b.pages

pub more : (b b' : Book) (kind : Kind) (page t : ℕ) → b' ≡ with_grants b t kind page (granted b kind page + 1) → More b kind page b'
more b b' Reading page t e = record { mark = ap (λ (x : Book). x.mark) e; reading = ap (λ (x : Book). x.reading) e; updating = ap (λ (x : Book). x.updating) e; pages = ap (λ (x : Book). x.pages) e }
more b b' Updating page t e = record { mark = ap (λ (x : Book). x.mark) e; reading = ap (λ (x : Book). x.reading) e; updating = ap (λ (x : Book). x.updating) e; pages = ap (λ (x : Book). x.pages) e }

put-here : (f : ℕ → ℕ) (page n : ℕ) → put f page n page ≡ n
put-here f page n = cond-true (eqb page page) n (f page) (eq-eqb page page refl)

put_back : (f : ℕ → ℕ) (page q : ℕ) → put (put f page (f page + 1)) page (put f page (f page + 1) page - 1) q ≡ f q
put_back f page q =
    elim (cases_eq q page) [
      | inl e ↦
          (cond-true (eqb q page) (put f page (f page + 1) page - 1) (put f page (f page + 1) q) (eq-eqb q page e)
          ∙ ap (λ (x : ℕ). x - 1) (put-here f page (f page + 1)) ∙ less (f page) ∙ ap f (sym e))
      | inr ne ↦
          (cond-false (eqb q page) (put f page (f page + 1) page - 1) (put f page (f page + 1) q) (ne_eqb q page ne)
          ∙ cond-false (eqb q page) (f page + 1) (f q) (ne_eqb q page ne))
    ]
  where
    less : (n : ℕ) → n + 1 - 1 ≡ n
    less n = omega arith

-- a function with one more at a page, put back
back : (f g h : ℕ → ℕ) (page : ℕ) → g ≡ put f page (f page + 1) → h ≡ put g page (g page - 1) → h ≡ f
back f g h page e k = k ∙ ap (λ (x : ℕ → ℕ). put x page (x page - 1)) e ∙ (λ j q. put_back f page q j)

-- it is out, whatever was done but for unfixes
pub more-out : (b b1 b2 : Book) (kind : Kind) (page : ℕ) → More b kind page b1 → Same b1 b2 → is_granted b2 kind b.mark page ≡ None
more-out b b1 b2 Reading page m s =
    let n : b2.reading page ≡ b.reading page + 1 = ap (λ (f : ℕ → ℕ). f page) (s.reading ∙ m.reading) ∙ put-here b.reading page (b.reading page + 1) in
    grant-yes b2 Reading b.mark page (sym (s.mark ∙ m.mark)) (omega (arith, n))
more-out b b1 b2 Updating page m s =
    let n : b2.updating page ≡ b.updating page + 1 = ap (λ (f : ℕ → ℕ). f page) (s.updating ∙ m.updating) ∙ put-here b.updating page (b.updating page + 1) in
    grant-yes b2 Updating b.mark page (sym (s.mark ∙ m.mark)) (omega (arith, n))

-- and the unfix takes it off again
pub undone : (b b1 b2 b3 : Book) (kind : Kind) (page : ℕ) → More b kind page b1 → Same b1 b2 → b3 ≡ with_grants b2 b2.clock kind page (granted b2 kind page - 1) → Same b b3 × (b3.pages ≡ b2.pages)
undone b b1 b2 b3 Reading page m s e = (
  record {
    mark = ap (λ (x : Book). x.mark) e ∙ s.mark ∙ m.mark;
    reading = back b.reading b2.reading b3.reading page (s.reading ∙ m.reading) (ap (λ (x : Book). x.reading) e);
    updating = ap (λ (x : Book). x.updating) e ∙ s.updating ∙ m.updating;
  },
  ap (λ (x : Book). x.pages) e,
)
undone b b1 b2 b3 Updating page m s e = (
  record {
    mark = ap (λ (x : Book). x.mark) e ∙ s.mark ∙ m.mark;
    reading = ap (λ (x : Book). x.reading) e ∙ s.reading ∙ m.reading;
    updating = back b.updating b2.updating b3.updating page (s.updating ∙ m.updating) (ap (λ (x : Book). x.updating) e);
  },
  ap (λ (x : Book). x.pages) e,
)
