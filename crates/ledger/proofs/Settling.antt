-- A settlement between two fixes and their unfixes.
use Rattle.std.proofs.Common.{◌≡◌, ℕ, None, Ok, Err, Result, sym, refl, ap, ◌∙◌, subst}
use Rattle.page.specs.declared.refusal.Refusal.{Refusal}
use Rattle.device.specs.Row.{Row}
use Rattle.device.specs.declared.device.Device as device
use Rattle.policy.specs.declared.policy.Policy as policy
use Rattle.book.specs.Book.{Book, is_granted}
use Rattle.book.specs.Call.{Answer}
use Rattle.book.specs.Call.Call.{Fix, Unfix}
use Rattle.book.specs.Call.Answer.{Granted, Refused}
use Rattle.book.specs.declared.grant.Kind.TheVariants.{Updating}
use Rattle.book.specs.declared.grant.Ticket.{Ticket}
use Rattle.records.specs.declared.batch.Batch.{Batch}
use Rattle.records.specs.declared.fee.Fee.{Fee}
use Rattle.pool.specs.Did.{Did, given}
use Rattle.pool.specs.declared.grant.Grant.{Grant}
use Rattle.pool.specs.Meaning.{book}
use Rattle.pool.specs.declared.pool.Pool.{Pool}
use Rattle.ledger.specs.declared.fault.Fault.{Fault}
use Rattle.ledger.specs.declared.spot.Spot.{Spot}
use Rattle.ledger.specs.Answered.{open_pair}
use Rattle.ledger.specs.Pair.{DidPair}
use Rattle.ledger.specs.Settled.{Pages, DidSettle, SameGrants}
use Rattle.ledger.proofs.Granted.{Same, More, more, more-out, more-still, undone, after-fix, after-refusal, after_unfix}

-- What a grant to update a page is told as.
abbrev pub for_update : ℕ → ℕ → Ticket
for_update mark page = record { kind = Updating; mark = mark; page = page }

pub told : {K : Type 0} {mark page : ℕ} (g : Grant K) → g ≡ given mark page → ◌≡◌ {A = Ticket} (record { kind = Updating; mark = g.mark; page = g.page }) (for_update mark page)
told {K} g e = ap (λ (x : Grant K). record { kind = Updating; mark = x.mark; page = x.page }) e

same_refl : (b : Book) → Same b b
same_refl b = record { mark = refl; reading = refl; updating = refl }

same-grants : (b b' : Book) → Same b b' → SameGrants b b'
same-grants b b' s = record { reading = λ q. ap (λ (f : ℕ → ℕ). f q) s.reading; updating = λ q. ap (λ (f : ℕ → ℕ). f q) s.updating }

-- the pages after the two unfixes are those after the settlement
pages_are : (number : ℕ) (pages pages2 pages5 : Row) (x y : Spot) (r : Result (Batch × Fee) Fault) → pages2 ≡ pages → Pages number pages2 x y r pages5 → Pages number pages x y r pages5
pages_are number pages pages2 pages5 x y r e h = let Q : Row → Type 0 = λ k. Pages number k x y r pages5 in subst Q e h

-- What holds of the grant that a fix gives, said of a grant equal to it.
pub out-by : {K D P : Type 0} {d : device.Ghosts D} {p : policy.Ghosts P} {mark page : ℕ} (pool : Pool D P d p) (g : Grant K) → g ≡ given mark page → is_granted (book pool) Updating mark page ≡ None → is_granted (book pool) Updating g.mark g.page ≡ None
out-by {K} pool g e h = let A : Grant K → Type 0 = λ x. is_granted (book pool) Updating x.mark x.page ≡ None in subst A (sym e) h

pub pair-by : {K D P : Type 0} {d : device.Ghosts D} {p : policy.Ghosts P} {m n i j : ℕ} (number : ℕ) (two three : Pool D P d p) (g k : Grant K) (a b : ℕ) (r : Result (Batch × Fee) Fault) → g ≡ given m i → k ≡ given n j → DidPair number two (record { page = g.page; place = a }) (record { page = k.page; place = b }) r three → DidPair number two (record { page = i; place = a }) (record { page = j; place = b }) r three
pair-by {K} {i = i} number two three g k a b r e f h =
    let A : Grant K → Type 0 = λ x. DidPair number two (record { page = x.page; place = a }) (record { page = k.page; place = b }) r three in
    let B : Grant K → Type 0 = λ x. DidPair number two (record { page = i; place = a }) (record { page = x.page; place = b }) r three in
    subst B f (subst A e h)

pub looked-by : {K : Type 0} {m n i j : ℕ} (number : ℕ) (pages : Row) (g k : Grant K) (a b : ℕ) (r : Result (Batch × Fee) Fault) → g ≡ given m i → k ≡ given n j → r ≡ open_pair number pages (record { page = g.page; place = a }) (record { page = k.page; place = b }) → r ≡ open_pair number pages (record { page = i; place = a }) (record { page = j; place = b })
looked-by {K} {i = i} number pages g k a b r e f h =
    let A : Grant K → Type 0 = λ x. r ≡ open_pair number pages (record { page = x.page; place = a }) (record { page = k.page; place = b }) in
    let B : Grant K → Type 0 = λ x. r ≡ open_pair number pages (record { page = i; place = a }) (record { page = x.page; place = b }) in
    subst B f (subst A e h)

module _ {D P : Type 0} {d : device.Ghosts D} {p : policy.Ghosts P} (number : ℕ) where
  -- nothing was done
  pub unsettled : (pool pool' : Pool D P d p) (x y : Spot) (e : Fault) → pool' ≡ pool → DidSettle number pool x y (Err e) pool'
  unsettled pool pool' x y e h = record {
    grants = record { reading = λ q. ap (λ (k : Pool D P d p). (book k).reading q) h; updating = λ q. ap (λ (k : Pool D P d p). (book k).updating q) h };
    pages = λ q. ap (λ (k : Pool D P d p). (book k).pages q) h;
  }

  pub first-refused : (pool pool' : Pool D P d p) (x y : Spot) (r : Refusal) (e : Fault) → Did pool (Fix Updating x.page) (Refused r) pool' → DidSettle number pool x y (Err e) pool'
  first-refused pool pool' x y r e h = unsettled pool pool' x y e (after-refusal pool pool' Updating x.page r h)

  -- what an unfix of the grant just given leaves
  unfixed : (pool mid pool' : Pool D P d p) (page : ℕ) (b1 : Book) (t : Ticket) (a : Answer) → t ≡ for_update (book pool).mark page → More (book pool) Updating page b1 → Same b1 (book mid) → Did mid (Unfix t) a pool' → Same (book pool) (book pool') × ((book pool').pages ≡ (book mid).pages)
  unfixed pool mid pool' page b1 t a e m s h =
      let H : Ticket → Type 0 = λ k. Did mid (Unfix k) a pool' in
      undone (book pool) b1 (book mid) (book pool') Updating page m s
      (after_unfix mid pool' (for_update (book pool).mark page) a (subst H e h) (more-out (book pool) b1 (book mid) Updating page m s))

  pub second-refused : (pool one two pool' : Pool D P d p) (x y : Spot) (t u : Ticket) (r : Refusal) (a : Answer) (e : Fault) → u ≡ for_update (book pool).mark x.page → Did pool (Fix Updating x.page) (Granted t) one → Did one (Fix Updating y.page) (Refused r) two → Did two (Unfix u) a pool' → DidSettle number pool x y (Err e) pool'
  second-refused pool one two pool' x y t u r a e is h1 h2 h3 =
      let m = more (book pool) (book one) Updating x.page _ (after-fix pool one Updating x.page t h1) in
      let same : two ≡ one = after-refusal one two Updating y.page r h2 in
      let S : Pool D P d p → Type 0 = λ k. Same (book one) (book k) in
      let w = unfixed pool two pool' x.page (book one) u a is m (subst S (sym same) (same_refl (book one))) h3 in
      record {
        grants = same-grants (book pool) (book pool') w.0;
        pages = λ q. ap (λ (f : Row). f q) (w.1 ∙ ap (λ (k : Pool D P d p). (book k).pages) same ∙ m.pages);
      }

  paired : (two three : Pool D P d p) (x y : Spot) (r : Result (Batch × Fee) Fault) → DidPair number two x y r three → Same (book two) (book three) × Pages number (book two).pages x y r (book three).pages
  paired two three x y (Ok r) h = (
    record { mark = ap (λ (k : Book). k.mark) h.1; reading = ap (λ (k : Book). k.reading) h.1; updating = ap (λ (k : Book). k.updating) h.1 },
    (h.0, λ q. ap (λ (k : Book). k.pages q) h.1),
  )
  paired two three x y (Err e) h = (
    record { mark = ap (λ (k : Pool D P d p). (book k).mark) h; reading = ap (λ (k : Pool D P d p). (book k).reading) h; updating = ap (λ (k : Pool D P d p). (book k).updating) h },
    λ q. ap (λ (k : Pool D P d p). (book k).pages q) h,
  )

  pub record Between (pool one two : Pool D P d p) (x y : Spot) : Type 0 where
    pub first : More (book pool) Updating x.page (book one)
    pub second : More (book one) Updating y.page (book two)

  pub between : (pool one two : Pool D P d p) (x y : Spot) (t u : Ticket) → Did pool (Fix Updating x.page) (Granted t) one → Did one (Fix Updating y.page) (Granted u) two → Between pool one two x y
  between pool one two x y t u h1 h2 = record {
    first = more (book pool) (book one) Updating x.page _ (after-fix pool one Updating x.page t h1);
    second = more (book one) (book two) Updating y.page _ (after-fix one two Updating y.page u h2);
  }

  pub first_out : (pool one two : Pool D P d p) (x y : Spot) → Between pool one two x y → is_granted (book two) Updating (book pool).mark x.page ≡ None
  first_out pool one two x y w = more-still (book pool) (book one) (book two) x.page y.page w.first w.second

  pub second-out : (pool one two : Pool D P d p) (x y : Spot) → Between pool one two x y → is_granted (book two) Updating (book one).mark y.page ≡ None
  second-out pool one two x y w = more-out (book one) (book two) (book two) Updating y.page w.second (same_refl (book two))

  pub settled : (pool one two three four pool' : Pool D P d p) (x y : Spot) (g k : Ticket) (a b : Answer) (r : Result (Batch × Fee) Fault) → g ≡ for_update (book pool).mark x.page → k ≡ for_update (book one).mark y.page → Between pool one two x y → DidPair number two x y r three → Did three (Unfix k) a four → Did four (Unfix g) b pool' → DidSettle number pool x y r pool'
  settled pool one two three four pool' x y g k a b r eg ek w pr h4 h5 =
      let t = paired two three x y r pr in
      let u4 = unfixed one three four y.page (book two) k a ek w.second t.0 h4 in
      let u5 = unfixed pool four pool' x.page (book one) g b eg w.first u4.0 h5 in
      let after : (book pool').pages ≡ (book three).pages = u5.1 ∙ u4.1 in
      let Q : Row → Type 0 = λ v. Pages number (book two).pages x y r v in
      record {
        grants = same-grants (book pool) (book pool') u5.0;
        pages = pages_are number (book pool).pages (book two).pages (book pool').pages x y r (w.second.pages ∙ w.first.pages) (subst Q (sym after) t.1);
      }
