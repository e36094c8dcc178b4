-- Reads, writes and unfixes of a page in a frame.
use Rattle.std.proofs.Common.{◌≡◌, ℕ, ◌+◌, ◌-◌, ◌<◌, ◌≤◌, Bool, true, false, cond, eqb, leb, List, [], ◌∷◌, ◌++◌, length, take, drop, is_ok, IsErrAnd, Some, None, Ok, Err, Option, Result, sym, refl, ap, ◌∙◌, subst, inl, inr, add-zero, arith}
use Rattle.std.proofs.lemmas.List.{take-append-drop}
use Rattle.std.proofs.lemmas.Bool.{both_ways, false≢true, cases_Bool, cond-true, cond-false, eq-eqb, ne_eqb, leb-true}
use Rattle.page.specs.declared.refusal.Refusal.{Refusal}
use Rattle.page.specs.declared.refusal.Refusal.TheVariants.{PastPageEnd}
use Rattle.std.specs.Coded.{×_prop, le_prop}
use Rattle.device.specs.Row.{Page, sound, worn, lost, over_at}
use Rattle.device.specs.declared.device.Device as device
use Rattle.policy.specs.declared.policy.Policy as policy
use Rattle.book.specs.Book.{by_kind, put, is_granted, first_no, refusal, accepted, ◌otherwise◌}
use Rattle.book.specs.Bytes.{bytes_at, patched}
use Rattle.book.specs.Call.{Call, Answer}
use Rattle.book.specs.Call.Call.{Read, Write, Unfix}
use Rattle.book.specs.Call.Answer.{Copied, Done, Refused}
use Rattle.book.specs.Life.{flushes}
use Rattle.book.specs.declared.grant.Kind.{Kind}
use Rattle.book.specs.declared.grant.Kind.TheVariants.{Reading, Updating}
use Rattle.book.specs.declared.grant.Ticket.{Ticket}
use Rattle.book.proofs.Pages.{patched-long}
use Rattle.frames.specs.Calls.{fits, if_ok, no_bytes, changed_by, overwritten}
use Rattle.frames.specs.Calls.{copied as taken}
use Rattle.frames.specs.declared.frames.Frames.{Frames}
use Rattle.frames.specs.Table.{Frame, frame, at, page_in, pins_of, marked, unpinned, with_pins, with, with_slot}
use Rattle.turns.specs.Turns.{unless, named}
use Rattle.pool.specs.declared.pool.Pool.{Pool}
use Rattle.pool.specs.Did.{Did, DidCopy, copied, done}
use Rattle.pool.specs.Meaning.{book, course, shown, pins_at}
use Rattle.pool.specs.Tied.{Stands, Tied, Tied-prop}
use Rattle.pool.proofs.Books.{same-book}
use Rattle.pool.proofs.Changes.{put-tied, put-each, put-pages, put-reading, put-updating}
use Rattle.pool.proofs.Doings.{did-refused, exit_refused, no_turn, says-accepted, next-accepted}
use Rattle.pool.proofs.Places.{at_here, some-none}
use Rattle.pool.proofs.Standing.{stands_at}
use Rattle.pool.proofs.Storing.{over-over}
use Rattle.pool.proofs.Taking.{granted_at}

-- the bytes of a page in a frame are the frame's
over-bytes : (f : Frame) (o : Option Page) → Stands (Some f) o → bytes_at (over_at o f.bytes) ≡ f.bytes
over-bytes f None h = absurd h
over-bytes f (Some (sound bs)) h = refl
over-bytes f (Some (worn x bs)) h = h.1.2
over-bytes f (Some (lost x)) h = absurd h.1

-- the two questions of a read and of a write
pub two-yes : (q : Option Refusal) (t : Bool) → q ≡ None → t ≡ true → first_no (q ∷ (t otherwise PastPageEnd) ∷ []) ≡ None
two-yes q t e y = ap (λ (x : Option Refusal). first_no (x ∷ (t otherwise PastPageEnd) ∷ [])) e ∙ ap (λ (x : Bool). first_no ((x otherwise PastPageEnd) ∷ [])) y

pub two_no : (q : Option Refusal) (t : Bool) → q ≡ None → t ≡ false → first_no (q ∷ (t otherwise PastPageEnd) ∷ []) ≡ Some PastPageEnd
two_no q t e y = ap (λ (x : Option Refusal). first_no (x ∷ (t otherwise PastPageEnd) ∷ [])) e ∙ ap (λ (x : Bool). first_no ((x otherwise PastPageEnd) ∷ [])) y

pub first_no_lem : (q : Option Refusal) (qs : List (Option Refusal)) (r : Refusal) → q ≡ Some r → first_no (q ∷ qs) ≡ Some r
first_no_lem q qs r e = ap (λ (x : Option Refusal). first_no (x ∷ qs)) e

fits-yes : (offset len : ℕ) → leb (offset + len) 512 ≡ true → fits offset len ≡ Ok tt
fits-yes offset len y = cond-true (leb (offset + len) 512) (Ok tt) (Err PastPageEnd) y

fits_no : (offset len : ℕ) → leb (offset + len) 512 ≡ false → fits offset len ≡ Err PastPageEnd
fits_no offset len y = cond-false (leb (offset + len) 512) (Ok tt) (Err PastPageEnd) y

module _ {D P : Type 0} {d : device.Ghosts D} {p : policy.Ghosts P} where
  -- an accepted call that neither fixes nor flushes
  pub did_worked : (pool pool' : Pool D P d p) (call : Call) (a : Answer) → refusal (book pool) call ≡ None → named call ≡ None → ((q : ℕ) → flushes call q ≡ false) → pool'.device ≡ pool.device → course pool' ≡ course pool → a ≡ (accepted (book pool) call).0 → book pool' ≡ (accepted (book pool) call).1 → Did pool call a pool'
  did_worked pool pool' call a e no-fix no-flush dev co ans nx = record {
    outcomes = [];
    doing = record {
      step = record {
        answer = ans ∙ says-accepted (book pool) call e;
        after = nx ∙ next-accepted (book pool) call e;
        moved = λ q. inl (ap (λ x. d.row x q) dev);
        flushed = λ q f. absurd (both_ways (flushes call q) (no-flush q) f.named);
      };
      turned = no_turn p (book pool) _ _ call (ap (λ (o : Option Refusal). unless o (named call)) e ∙ no-fix) co;
    };
    refused = λ r h. absurd (some-none r (sym h ∙ e));
    still = λ h. dev;
    apart = λ q h. ap (λ x. d.row x q) dev;
  }

  pub copy_refused : (pool : Pool D P d p) (t : Ticket) (offset : ℕ) (old : List ℕ) (r : Result (Unit {0}) Refusal) (e : Refusal) → IsErrAnd r (λ y. y ≡ e) → is_granted (book pool) t.kind t.mark t.page ≡ Some e → DidCopy pool t offset old r old
  copy_refused pool t offset old r e h why = record { did = exit_refused pool (Read t offset (length old)) (λ x. copied x old) (λ x. refl) r e h (first_no_lem _ _ e why); buffer = λ x. refl }

  pub did_copy : (pool : Pool D P d p) (t : Ticket) (offset : ℕ) (old new : List ℕ) (r : Result (Unit {0}) Refusal) (i : ℕ) → is_granted (book pool) t.kind t.mark t.page ≡ None → i < pool.frames.used → page_in (frame pool.frames i) ≡ t.page → r ≡ fits offset (length old) → new ≡ taken (frame pool.frames i) offset old → DidCopy pool t offset old r new
  did_copy pool t offset old new r i grant low page ans buf =
      elim (cases_Bool (leb (offset + length old) 512)) [
        | inl y ↦
            (let b = book pool in
            let f = frame pool.frames i in
            let row = d.row pool.device in
            let ok : r ≡ Ok tt = ans ∙ fits-yes offset (length old) y in
            let st = stands_at pool.frames.used (frame pool.frames) row _ _ pool.tied i t.page low page in
            let bytes : bytes_at (b.pages t.page) ≡ f.bytes = ap (λ (o : Option Frame). bytes_at (shown o (row t.page))) (at_here pool.frames.used (frame pool.frames) i t.page pool.tied.once low page) ∙ over-bytes f (row t.page) st in
            let got : new ≡ take (length old) (drop offset (bytes_at (b.pages t.page))) = buf ∙ ap (λ (x : Result (Unit {0}) Refusal). if_ok x (take (length old) (drop offset f.bytes)) old) (fits-yes offset (length old) y) ∙ ap (λ (x : List ℕ). take (length old) (drop offset x)) (sym bytes) in
            record {
              did = did_worked pool pool (Read t offset (length old)) (copied r new) (two-yes _ _ grant y) refl (λ q. refl) refl refl (ap (λ (x : Result (Unit {0}) Refusal). copied x new) ok ∙ ap Copied got) refl;
              buffer = λ h. absurd (both_ways (is_ok r) h (ap is_ok ok));
            })
        | inr z ↦
            (let no-fit : r ≡ Err PastPageEnd = ans ∙ fits_no offset (length old) z in
            let A : Answer → Type 0 = λ a. Did pool (Read t offset (length old)) a pool in
            record {
              did = subst A (sym (ap (λ (x : Result (Unit {0}) Refusal). copied x new) no-fit)) (did-refused pool (Read t offset (length old)) PastPageEnd (two_no _ _ grant z));
              buffer = λ h. buf ∙ ap (λ (x : Result (Unit {0}) Refusal). if_ok x (take (length old) (drop offset (frame pool.frames i).bytes)) old) (fits_no offset (length old) z);
            })
      ]

  -- the frames of a pool become others, and nothing else
  abbrev pub Kept : Pool D P d p → Frames → Type 0
  Kept pool fs = Tied fs.used (frame fs) (d.row pool.device) (p.resident (p.model pool.policy)) (p.size (p.model pool.policy)) × (pool.hits + pool.fetches ≤ pool.clock)

  abbrev pub reframed : (pool : Pool D P d p) (fs : Frames) → Kept pool fs → Pool D P d p
  reframed pool fs k = record { device = pool.device; policy = pool.policy; frames = fs; mark = pool.mark; clock = pool.clock; hits = pool.hits; fetches = pool.fetches; tied = k.0; counts = k.1 }

less-stands : (kind : Kind) (f : Frame) (o : Option Page) (m : ℕ) → (f.slot.updaters ≡ 0 → by_kind kind 0 m ≡ 0) → Stands (Some f) o → Stands (Some (with_slot f (with_pins kind f.slot m))) o
less-stands kind f None m h x = absurd x
less-stands Reading f (Some (sound bs)) m h x = x
less-stands Updating f (Some (sound bs)) m h x = x
less-stands Reading f (Some (worn y bs)) m h x = x
less-stands Updating f (Some (worn y bs)) m h x = (x.0, (x.1.0, h x.1.1, x.1.2))
less-stands kind f (Some (lost y)) m h x = absurd x.1

none-less : (kind : Kind) (f : Frame) → f.slot.updaters ≡ 0 → by_kind kind 0 (pins_of kind f.slot - 1) ≡ 0
none-less Reading f e = refl
none-less Updating f e = omega arith

-- a page with a grant for update is sound, and takes new bytes
changed-stands : (f : Frame) (o : Option Page) (bs : List ℕ) → 0 < f.slot.updaters → length bs ≡ 512 → Stands (Some f) o → Stands (Some (record { slot = marked true f.slot; bytes = bs })) o
changed-stands f None bs l e x = absurd x
changed-stands f (Some (sound old)) bs l e x = (e, λ h. absurd (false≢true (sym h)))
changed-stands f (Some (worn y old)) bs l e x = let z = x.1.1 in absurd (omega arith)
changed-stands f (Some (lost y)) bs l e x = absurd x.1

long : (f : Frame) (o : Option Page) → Stands (Some f) o → length f.bytes ≡ 512
long f None x = absurd x
long f (Some pg) x = x.0

patched-none : (offset : ℕ) (new old : List ℕ) → length new ≡ 0 → patched offset new old ≡ old
patched-none offset [] old e = ap (λ (k : ℕ). take offset old ++ drop k old) (add-zero offset) ∙ take-append-drop offset old
patched-none offset (x ∷ new) old e = absurd (omega arith)

-- What a frame is after a write that is accepted.
record Wrote (f : Frame) (offset : ℕ) (new : List ℕ) (o : Option Page) (f' : Frame) : Type 0 where
  stands : Stands (Some f') o
  page : page_in f' ≡ page_in f
  bytes : f'.bytes ≡ patched offset new f.bytes
  readers : f'.slot.readers ≡ f.slot.readers
  updaters : f'.slot.updaters ≡ f.slot.updaters

wrote : (f : Frame) (offset : ℕ) (new : List ℕ) (o : Option Page) → offset + length new ≤ 512 → 0 < f.slot.updaters → Stands (Some f) o → Wrote f offset new o (changed_by f offset new)
wrote f offset new o fit l x = go (no_bytes new) refl
  where
    go : (t : Bool) → no_bytes new ≡ t → Wrote f offset new o (cond t f (record { slot = marked true f.slot; bytes = patched offset new f.bytes }))
    go true e = (let z : length new ≤ 0 = leb-true (length new) 0 e in record { stands = x; page = refl; bytes = sym (patched-none offset new f.bytes (omega arith)); readers = refl; updaters = refl })
    go false e = record { stands = changed-stands f o (patched offset new f.bytes) l (patched-long offset new f.bytes fit (long f o x)) x; page = refl; bytes = refl; readers = refl; updaters = refl }

over-written : (f : Frame) (offset : ℕ) (new : List ℕ) (o : Option Page) → 0 < f.slot.updaters → Stands (Some f) o → Stands (Some (overwritten f offset new)) o × (page_in (overwritten f offset new) ≡ page_in f)
over-written f offset new o few x =
    elim (cases_Bool (leb (offset + length new) 512)) [
      | inl y ↦ (let w = wrote f offset new o (leb-true (offset + length new) 512 y) few x in
          let S : Result (Unit {0}) Refusal → Type 0 = λ r. Stands (Some (if_ok r (changed_by f offset new) f)) o × (page_in (if_ok r (changed_by f offset new) f) ≡ page_in f) in
          subst S (sym (fits-yes offset (length new) y)) (w.stands, w.page))
      | inr z ↦ (let S : Result (Unit {0}) Refusal → Type 0 = λ r. Stands (Some (if_ok r (changed_by f offset new) f)) o × (page_in (if_ok r (changed_by f offset new) f) ≡ page_in f) in
          subst S (sym (fits_no offset (length new) z)) (x, refl))
    ]

module _ {D P : Type 0} {d : device.Ghosts D} {p : policy.Ghosts P} where
  -- one grant less leaves the parts together
  pub unpinned_kept : (pool : Pool D P d p) (kind : Kind) (i : ℕ) (fs : Frames) → i < pool.frames.used → fs.used ≡ pool.frames.used → ((j : ℕ) → frame fs j ≡ with (frame pool.frames) i (with_slot (frame pool.frames i) (unpinned kind (frame pool.frames i).slot)) j) → Kept pool fs
  unpinned_kept pool kind i fs low used is =
      let n = pool.frames.used in
      let F = frame pool.frames in
      let f = F i in
      let m = pins_of kind f.slot - 1 in
      let row = d.row pool.device in
      let st = stands_at n F row _ _ pool.tied i (page_in f) low refl in
      (put-tied n F i (with_slot f (with_pins kind f.slot m)) fs.used (frame fs) used low pool.tied.once refl is row row _ _ _ _ pool.tied (less-stands kind f (row (page_in f)) m (none-less kind f) st) (λ q ne. refl) (λ q. refl) refl, pool.counts)

  pub did_unfix : (pool : Pool D P d p) (t : Ticket) (i : ℕ) (fs : Frames) (kept : Kept pool fs) → is_granted (book pool) t.kind t.mark t.page ≡ None → i < pool.frames.used → page_in (frame pool.frames i) ≡ t.page → fs.used ≡ pool.frames.used → ((j : ℕ) → frame fs j ≡ with (frame pool.frames) i (with_slot (frame pool.frames i) (unpinned t.kind (frame pool.frames i).slot)) j) → Did pool (Unfix t) Done (reframed pool fs kept)
  did_unfix pool t i fs kept grant low page used is =
      let n = pool.frames.used in
      let F = frame pool.frames in
      let f = F i in
      let kind = t.kind in
      let m = pins_of kind f.slot - 1 in
      let f' = with_slot f (with_pins kind f.slot m) in
      let row = d.row pool.device in
      let once = pool.tied.once in
      let R : ℕ → ℕ = λ k. pins_at Reading (at n F k) in
      let U : ℕ → ℕ = λ k. pins_at Updating (at n F k) in
      let less : m ≡ by_kind kind R U t.page - 1 = ap (λ (x : ℕ). x - 1) (sym (granted_at kind (at n F) t.page ∙ ap (pins_at kind) (at_here n F i t.page once low page))) in
      did_worked pool (reframed pool fs kept) (Unfix t) Done
      (ap (λ (x : Option Refusal). first_no (x ∷ [])) grant) refl (λ q. refl) refl refl refl
      (same-book _ _ refl refl refl refl
      (put-pages n F i f' fs.used (frame fs) used low once refl is row row refl (λ k. refl))
      (λ k. put-reading n F i f' fs.used (frame fs) used low once refl is kind m refl k ∙ ap (λ (x : ℕ). by_kind kind (put R x m) R k) page ∙ ap (λ (y : ℕ). by_kind kind (put R t.page y) R k) less)
      (λ k. put-updating n F i f' fs.used (frame fs) used low once refl is kind m refl k ∙ ap (λ (x : ℕ). by_kind kind U (put U x m) k) page ∙ ap (λ (y : ℕ). by_kind kind U (put U t.page y) k) less))

  -- and so does a write
  pub written_kept : (pool : Pool D P d p) (offset : ℕ) (new : List ℕ) (i : ℕ) (fs : Frames) → i < pool.frames.used → 0 < (frame pool.frames i).slot.updaters → fs.used ≡ pool.frames.used → ((j : ℕ) → frame fs j ≡ with (frame pool.frames) i (overwritten (frame pool.frames i) offset new) j) → Kept pool fs
  written_kept pool offset new i fs low few used is =
      let n = pool.frames.used in
      let F = frame pool.frames in
      let f = F i in
      let row = d.row pool.device in
      let w = over-written f offset new (row (page_in f)) few (stands_at n F row _ _ pool.tied i (page_in f) low refl) in
      (put-tied n F i (overwritten f offset new) fs.used (frame fs) used low pool.tied.once w.1 is row row _ _ _ _ pool.tied w.0 (λ k ne. refl) (λ k. refl) refl, pool.counts)

  write-accepted : (pool : Pool D P d p) (mark page offset : ℕ) (new : List ℕ) (i : ℕ) (fs : Frames) (kept : Kept pool fs) → is_granted (book pool) Updating mark page ≡ None → i < pool.frames.used → page_in (frame pool.frames i) ≡ page → 0 < (frame pool.frames i).slot.updaters → leb (offset + length new) 512 ≡ true → fs.used ≡ pool.frames.used → ((j : ℕ) → frame fs j ≡ with (frame pool.frames) i (changed_by (frame pool.frames i) offset new) j) → Did pool (Write mark page offset new) Done (reframed pool fs kept)
  write-accepted pool mark page offset new i fs kept grant low here few fit used is =
      let n = pool.frames.used in
      let F = frame pool.frames in
      let f = F i in
      let q = page_in f in
      let f' = changed_by f offset new in
      let b = book pool in
      let row = d.row pool.device in
      let once = pool.tied.once in
      let st = stands_at n F row _ _ pool.tied i q low refl in
      let w = wrote f offset new (row q) (leb-true (offset + length new) 512 fit) few st in
      let at-it : at n F q ≡ Some f = at_here n F i q once low refl in
      let shows : b.pages q ≡ over_at (row q) f.bytes = ap (λ (o : Option Frame). shown o (row q)) at-it in
      let bytes : bytes_at (b.pages q) ≡ f.bytes = ap bytes_at shows ∙ over-bytes f (row q) st in
      let newer : over_at (b.pages q) (patched offset new (bytes_at (b.pages page))) ≡ shown (Some f') (row q) =
      ap (λ (x : ℕ). over_at (b.pages q) (patched offset new (bytes_at (b.pages x)))) (sym here)
      ∙ ap (λ (x : List ℕ). over_at (b.pages q) (patched offset new x)) bytes
      ∙ ap (λ (o : Option Page). over_at o (patched offset new f.bytes)) shows
      ∙ over-over (row q) f.bytes (patched offset new f.bytes)
      ∙ ap (over_at (row q)) (sym w.bytes) in
      did_worked pool (reframed pool fs kept) (Write mark page offset new) Done
      (two-yes _ _ grant fit) refl (λ k. refl) refl refl refl
      (same-book _ _ refl refl refl refl
      (put-each n F i f' fs.used (frame fs) used low once w.page is (λ o k. shown o (row k)) (λ k. cond (eqb k page) (over_at (b.pages k) (patched offset new (bytes_at (b.pages page)))) (b.pages k))
      (sym newer ∙ sym (cond-true (eqb q page) (over_at (b.pages q) (patched offset new (bytes_at (b.pages page)))) (b.pages q) (eq-eqb q page here)))
      (λ k ne. sym (cond-false (eqb k page) (over_at (b.pages k) (patched offset new (bytes_at (b.pages page)))) (b.pages k) (ne_eqb k page (λ e. ne (here ∙ sym e))))))
      (put-each n F i f' fs.used (frame fs) used low once w.page is (λ o k. pins_at Reading o) (λ k. pins_at Reading (at n F k)) (w.readers ∙ sym (ap (pins_at Reading) at-it)) (λ k ne. refl))
      (put-each n F i f' fs.used (frame fs) used low once w.page is (λ o k. pins_at Updating o) (λ k. pins_at Updating (at n F k)) (w.updaters ∙ sym (ap (pins_at Updating) at-it)) (λ k ne. refl)))

  pub did_write : (pool : Pool D P d p) (mark page offset : ℕ) (new : List ℕ) (r : Result (Unit {0}) Refusal) (i : ℕ) (fs : Frames) (kept : Kept pool fs) → is_granted (book pool) Updating mark page ≡ None → i < pool.frames.used → page_in (frame pool.frames i) ≡ page → 0 < (frame pool.frames i).slot.updaters → r ≡ fits offset (length new) → (is_ok r ≡ false → fs ≡ pool.frames) → fs.used ≡ pool.frames.used → ((j : ℕ) → frame fs j ≡ with (frame pool.frames) i (overwritten (frame pool.frames i) offset new) j) → Did pool (Write mark page offset new) (done r) (reframed pool fs kept)
  did_write pool mark page offset new r i fs kept grant low here few ans keeps used is =
      elim (cases_Bool (leb (offset + length new) 512)) [
        | inl y ↦
            (let F = frame pool.frames in
            let A : Answer → Type 0 = λ a. Did pool (Write mark page offset new) a (reframed pool fs kept) in
            subst A (sym (ap done (ans ∙ fits-yes offset (length new) y)))
            (write-accepted pool mark page offset new i fs kept grant low here few y used
            (λ j. is j ∙ ap (λ (x : Result (Unit {0}) Refusal). with F i (if_ok x (changed_by (F i) offset new) (F i)) j) (fits-yes offset (length new) y))))
        | inr z ↦
            (let no-fit : r ≡ Err PastPageEnd = ans ∙ fits_no offset (length new) z in
            let same : fs ≡ pool.frames = keeps (ap is_ok no-fit) in
            let A : Answer → Type 0 = λ a. Did pool (Write mark page offset new) a (reframed pool fs kept) in
            let C : Kept pool pool.frames → Type 0 = λ t. Did pool (Write mark page offset new) (Refused PastPageEnd) (reframed pool pool.frames t) in
            let B : Frames → Type 0 = λ x. (t : Kept pool x) → Did pool (Write mark page offset new) (Refused PastPageEnd) (reframed pool x t) in
            let base = did-refused pool (Write mark page offset new) PastPageEnd (two_no _ _ grant z) in
            subst A (sym (ap done no-fit)) (subst B (sym same) (λ t. subst C (×_prop (Tied-prop _ _ _ _ _) le_prop (pool.tied, pool.counts) t) base) kept))
      ]
