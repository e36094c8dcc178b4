-- A page that is read into a vacant frame.
use Rattle.std.proofs.Common.{◌≡◌, ℕ, ◌+◌, max, Bool, true, false, is_some, Some, sym, ap, ◌∙◌, arith}
use Rattle.std.proofs.lemmas.Bool.{lt-ltb}
use Rattle.device.specs.declared.device.Device as device
use Rattle.policy.specs.Sets.{accepts, entered, grown}
use Rattle.policy.specs.declared.policy.Policy as policy
use Rattle.book.specs.Book.{by_kind, put, is_not_lost, is_not_worn}
use Rattle.book.specs.declared.grant.Kind.{Kind}
use Rattle.book.specs.declared.grant.Kind.TheVariants.{Reading, Updating}
use Rattle.frames.specs.Calls.{DidLoad}
use Rattle.frames.specs.Table.{frame, at, page_in, with}
use Rattle.frames.specs.declared.frames.Frames.{Frames}
use Rattle.frames.specs.declared.slot.Slot.{Slot}
use Rattle.pool.specs.declared.pool.Pool.{Pool}
use Rattle.pool.specs.declared.vacancy.Vacancy.{Vacancy}
use Rattle.pool.specs.Meaning.{book, shown, pins_at}
use Rattle.pool.specs.Steps.{Clean, Fetchable}
use Rattle.pool.specs.Tied.{Tied}
use Rattle.pool.proofs.Asking.{Early, early-found, lost-shown, worn-shown}
use Rattle.pool.proofs.Coming.{Come, Leaver, come, leaver, enters, come-tied, come-pages, come-reading, come-updating, read-stands, read-shows, room_for, left-shows}
use Rattle.pool.proofs.Places.{at_out}

module _ {D P : Type 0} {d : device.Ghosts D} {p : policy.Ghosts P} (pool : Pool D P d p) (kind : Kind) (q t : ℕ) (v : Vacancy) (r : Fetchable pool kind q t v) (clean : Clean pool v) where
  pub asked : Early (book pool) kind q
  asked = early-found (book pool) kind q r.early

  left : (k : ℕ) → v.leaving ≡ Some k → Leaver pool.frames.used (frame pool.frames) k
  left = leaver pool.frames.used (frame pool.frames) _ v.place.index v.leaving pool.tied.once r.vacant.place clean

  -- the page is not resident, and the one that leaves is
  pub away : p.resident (p.model pool.policy) q ≡ false
  away = pool.tied.same q ∙ ap is_some (at_out pool.frames.used (frame pool.frames) q r.absent)

  pub gone : (k : ℕ) → v.leaving ≡ Some k → p.resident (p.model pool.policy) k ≡ true
  gone k l = pool.tied.same k ∙ ap is_some (left k l).at

  pub accepted : accepts (p.resident (p.model pool.policy)) (p.size (p.model pool.policy)) (p.bound (p.model pool.policy)) q v.leaving ≡ true
  accepted =
      enters (p.resident (p.model pool.policy)) (p.size (p.model pool.policy)) (p.bound (p.model pool.policy)) q v.leaving away
      (λ e. (let z = room_for pool.frames.used (frame pool.frames) _ v.place.index v.leaving r.vacant.place e in omega (arith, z, pool.tied.filled))) gone

  -- what the frames are then
  module _ (fs : Frames) (below' : D) (used : fs.used ≡ max pool.frames.used (v.place.index + 1)) (is : (j : ℕ) → frame fs j ≡ with (frame pool.frames) v.place.index (frame fs v.place.index) j) (did : DidLoad d (frame pool.frames v.place.index) kind q pool.device (frame fs v.place.index) below') where
    came : Come pool.frames.used (frame pool.frames) q v.leaving (frame fs v.place.index) fs.used (frame fs)
    came =
        let comes : page_in (frame fs v.place.index) ≡ q = ap (λ (x : Slot). x.page) did.slot in
        come pool.frames.used (frame pool.frames) v.place.index q (frame fs v.place.index) fs.used (frame fs) pool.tied.once r.absent comes is used _ v.leaving r.vacant.place

    pub loaded-tied : (res' : ℕ → Bool) (size' : ℕ) → ((k : ℕ) → res' k ≡ entered (p.resident (p.model pool.policy)) q v.leaving k) → size' ≡ grown (p.size (p.model pool.policy)) v.leaving → Tied fs.used (frame fs) (d.row below') res' size'
    loaded-tied res' size' e s =
        let n = pool.frames.used in
        let F = frame pool.frames in
        let f = frame fs v.place.index in
        let row = d.row pool.device in
        let w = did.read.1 in
        let shape = d.shaped pool.device in
        let some : is_some (row q) ≡ true = shape.exact q ∙ lt-ltb q (d.size pool.device) asked.there in
        let not_lost : is_not_lost (row q) ≡ _ = sym (lost-shown (at n F q) (row q)) ∙ asked.not_lost in
        let not_worn : by_kind kind _ (is_not_worn (row q)) ≡ _ = ap (by_kind kind _) (sym (worn-shown (at n F q) (row q))) ∙ asked.not_worn in
        come-tied n F q v.leaving f fs.used (frame fs) came r.absent left row (d.row below') _ res' _ size' pool.tied (read-stands kind q f (row q) _ did.slot w.buffer some not_lost not_worn (shape.whole q)) w.row e s

    pub loaded-pages : (k : ℕ) → shown (at fs.used (frame fs) k) (d.row below' k) ≡ (book pool).pages k
    loaded-pages =
        let n = pool.frames.used in
        let F = frame pool.frames in
        let f = frame fs v.place.index in
        let row = d.row pool.device in
        let w = did.read.1 in
        come-pages n F q v.leaving f fs.used (frame fs) came r.absent left row (d.row below') (read-shows f (row q) _ w.buffer) (λ k l. left-shows n F row _ _ pool.tied k (left k l)) w.row

    pub loaded-reading : (k : ℕ) → pins_at Reading (at fs.used (frame fs) k) ≡ by_kind kind (put (book pool).reading q (by_kind {X = ℕ → ℕ} kind (book pool).reading (book pool).updating q + 1)) (book pool).reading k
    loaded-reading = come-reading pool.frames.used (frame pool.frames) q v.leaving (frame fs v.place.index) fs.used (frame fs) came r.absent left kind did.slot

    pub loaded-updating : (k : ℕ) → pins_at Updating (at fs.used (frame fs) k) ≡ by_kind kind (book pool).updating (put (book pool).updating q (by_kind {X = ℕ → ℕ} kind (book pool).reading (book pool).updating q + 1)) k
    loaded-updating = come-updating pool.frames.used (frame pool.frames) q v.leaving (frame fs v.place.index) fs.used (frame fs) came r.absent left kind did.slot
