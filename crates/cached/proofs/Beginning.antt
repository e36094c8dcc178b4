-- The pool in which an accepted call begins.
use Rattle.std.proofs.Common.{◌≡◌, ℕ, ◌<◌, ◌≤◌, Bool, true, false, ltb, refl, ap, ◌∙◌, arith}
use Rattle.std.proofs.lemmas.Bool.{ltb-true, ltb-false}
use Rattle.device.specs.declared.device.Device as device
use Rattle.policy.specs.declared.policy.Policy as policy
use Rattle.book.specs.Book.{Book, grants}
use Rattle.pool.specs.Did.{DidRenew}
use Rattle.pool.specs.Meaning.{book}
use Rattle.pool.specs.declared.pool.Pool.{Pool}
use Rattle.cached.specs.Idle.{Idle}
use Rattle.cached.specs.Through.{Begins}

module _ {D P : Type 0} {d : device.Ghosts D} {p : policy.Ghosts P} where
  -- It has no grant out, and shows the same pages.
  pub record Begun (pool start : Pool D P d p) : Type 0 where
    pub idle : Idle start
    pub mark : start.mark ≡ pool.mark
    pub size : (book start).size ≡ (book pool).size
    pub pages : (q : ℕ) → (book start).pages q ≡ (book pool).pages q

  pub renewed : (pool start : Pool D P d p) → DidRenew pool start → Begun pool start
  renewed pool start h = record {
    idle = λ q. ap (λ (b : Book). grants b q) h.book;
    mark = ap (λ (b : Book). b.mark) h.book;
    size = ap (λ (b : Book). b.size) h.book;
    pages = λ q. ap (λ (b : Book). b.pages q) h.book;
  }

  pub renewed-clock : (pool start : Pool D P d p) → DidRenew pool start → start.clock < 4294967295
  renewed-clock pool start h = let e : start.clock ≡ 0 = ap (λ (b : Book). b.clock) h.book in omega (arith, e)

  as_it_was : (pool start : Pool D P d p) → Idle pool → start ≡ pool → Begun pool start
  as_it_was pool start idle e = record {
    idle = λ q. ap (λ (x : Pool D P d p). grants (book x) q) e ∙ idle q;
    mark = ap (λ (x : Pool D P d p). x.mark) e;
    size = ap (λ (x : Pool D P d p). (book x).size) e;
    pages = λ q. ap (λ (x : Pool D P d p). (book x).pages q) e;
  }

  pub begun : (pool start : Pool D P d p) → Idle pool → Begins pool start → Begun pool start
  begun pool start idle h = go (ltb pool.clock 4294967295) refl
    where
      go : (t : Bool) → ltb pool.clock 4294967295 ≡ t → Begun pool start
      go true e = as_it_was pool start idle (h.in_time (ltb-true pool.clock 4294967295 e))
      go false e = renewed pool start (h.renewed (ltb-false pool.clock 4294967295 e))

  -- the pool itself, before the last time, and else the renewed one
  pub begins_here : (pool : Pool D P d p) → pool.clock < 4294967295 → Begins pool pool
  begins_here pool l = record { in_time = λ h. refl; renewed = λ h. absurd (omega (arith, h, l)) }

  pub begins_renewed : (pool start : Pool D P d p) → 4294967295 ≤ pool.clock → DidRenew pool start → Begins pool start
  begins_renewed pool start l r = record { in_time = λ h. absurd (omega (arith, h, l)); renewed = λ h. r }
