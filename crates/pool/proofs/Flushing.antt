-- Pages that are written back.
use Rattle.std.proofs.Common.{◌≡◌, ℕ, ◌<◌, ◌≤◌, Bool, false, ◌≢◌, [], ◌∷◌, Some, None, Option, sym, refl, ap, ◌∙◌, inl, inr, arith}
use Rattle.std.proofs.lemmas.Bool.{false≢true, cases_eq, eqb-true, eqb-false, lt-ltb, le-ltb}
use Rattle.page.specs.declared.refusal.Refusal.{Refusal}
use Rattle.page.specs.declared.refusal.Refusal.TheVariants.{NoSuchPage}
use Rattle.device.specs.declared.device.Device as device
use Rattle.policy.specs.declared.policy.Policy as policy
use Rattle.book.specs.Book.{Book, first_no, refusal, ◌otherwise◌}
use Rattle.book.specs.Call.Call.{Flush, FlushAll}
use Rattle.book.specs.Call.Answer.{Done, Refused}
use Rattle.frames.specs.Calls.{Absent}
use Rattle.frames.specs.Table.{Frame, frame, at, page_in}
use Rattle.turns.specs.Turns.{unless}
use Rattle.pool.specs.declared.pool.Pool.{Pool}
use Rattle.pool.specs.Did.{Did}
use Rattle.pool.specs.Meaning.{book, course}
use Rattle.pool.specs.Steps.{cleaned, DidBack, DidSettle}
use Rattle.pool.proofs.Doings.{did-refused, no_turn, says-accepted, next-accepted}
use Rattle.pool.proofs.Places.{at_out, at_where, some-none, with-same}
use Rattle.pool.proofs.Standing.{settled, not-held}

module _ {D P : Type 0} {d : device.Ghosts D} {p : policy.Ghosts P} where
  flush_yes : (pool : Pool D P d p) (page : ℕ) → page < d.size pool.device → refusal (book pool) (Flush page) ≡ None
  flush_yes pool page l = ap (λ (t : Bool). first_no ((t otherwise NoSuchPage) ∷ [])) (lt-ltb page (d.size pool.device) l)

  pub flush_refused : (pool : Pool D P d p) (page : ℕ) → d.size pool.device ≤ page → Did pool (Flush page) (Refused NoSuchPage) pool
  flush_refused pool page l = did-refused pool (Flush page) NoSuchPage (ap (λ (t : Bool). first_no ((t otherwise NoSuchPage) ∷ [])) (le-ltb page (d.size pool.device) l))

  -- an accepted flush
  did_flush : (pool pool' : Pool D P d p) (page : ℕ) → page < d.size pool.device → book pool' ≡ book pool → course pool' ≡ course pool → d.row pool'.device page ≡ (book pool).pages page → ((q : ℕ) → page ≢ q → d.row pool'.device q ≡ d.row pool.device q) → Did pool (Flush page) Done pool'
  did_flush pool pool' page l nx co here away = record {
    outcomes = [];
    doing = record {
      step = record {
        answer = says-accepted (book pool) (Flush page) (flush_yes pool page l);
        after = nx ∙ next-accepted (book pool) (Flush page) (flush_yes pool page l);
        moved = λ q. elim (cases_eq page q) [ inl e ↦ inr (at_page q e) | inr ne ↦ inl (away q ne) ];
        flushed = λ q f. at_page q (eqb-true page q f.named);
      };
      turned = no_turn p (book pool) _ _ (Flush page) (ap (λ (o : Option Refusal). unless o None) (flush_yes pool page l)) co;
    };
    refused = λ r h. absurd (some-none r (sym h ∙ flush_yes pool page l));
    still = λ h. absurd (false≢true (sym h));
    apart = λ q h. away q (eqb-false page q h);
  }
    where
      at_page : (q : ℕ) → page ≡ q → d.row pool'.device q ≡ (book pool).pages q
      at_page q e = ap (d.row pool'.device) (sym e) ∙ here ∙ ap (book pool).pages e

  pub flush_none : (pool : Pool D P d p) (page : ℕ) → page < d.size pool.device → Absent pool.frames.used (frame pool.frames) page → Did pool (Flush page) Done pool
  flush_none pool page l out = did_flush pool pool page l refl refl (sym (not-held pool.frames.used (frame pool.frames) _ _ _ pool.tied page (at_out pool.frames.used (frame pool.frames) page out))) (λ q ne. refl)

  back-course : (pool pool' : Pool D P d p) (i : ℕ) → DidBack pool i pool' → course pool' ≡ course pool
  back-course pool pool' i b k = record { model = p.model (b.policy k); hits = b.hits k; fetches = b.fetches k }

  pub flush_back : (pool pool' : Pool D P d p) (page i : ℕ) → page < d.size pool.device → i < pool.frames.used → page_in (frame pool.frames i) ≡ page → DidBack pool i pool' → Did pool (Flush page) Done pool'
  flush_back pool pool' page i l low e b =
      let F = frame pool.frames in
      let F' = frame pool'.frames in
      let here : F' i ≡ cleaned (F i) = b.frames i ∙ with-same F i (cleaned (F i)) in
      let low' : i < pool'.frames.used = omega (arith, b.used, low) in
      did_flush pool pool' page l b.next (back-course pool pool' i b)
      (sym (settled pool'.frames.used F' _ _ _ pool'.tied i page low' (ap page_in here ∙ e) (ap (λ (f : Frame). f.slot.changed) here)) ∙ ap (λ (x : Book). x.pages page) b.next)
      (λ q ne. b.other q (λ h. ne (sym e ∙ sym h)))

  -- ALL PAGES
  all_settled : (pool : Pool D P d p) → ((i : ℕ) → i < pool.frames.used → (frame pool.frames i).slot.changed ≡ false) → (q : ℕ) → d.row pool.device q ≡ (book pool).pages q
  all_settled pool clean q = go (at n F q) refl
    where
      n : ℕ
      n = pool.frames.used

      F : ℕ → Frame
      F = frame pool.frames

      go : (o : Option Frame) → at pool.frames.used (frame pool.frames) q ≡ o → d.row pool.device q ≡ (book pool).pages q
      go None e = sym (not-held pool.frames.used (frame pool.frames) _ _ _ pool.tied q e)
      go (Some f) e =
          let w = at_where pool.frames.used (frame pool.frames) q f e in
          sym (settled pool.frames.used (frame pool.frames) _ _ _ pool.tied w.place q w.low (ap page_in w.is ∙ w.page) (clean w.place w.low))

  pub did_flush_all : (pool pool' : Pool D P d p) (k : ℕ) → pool'.frames.used ≤ k → DidSettle pool k pool' → Did pool FlushAll Done pool'
  did_flush_all pool pool' k l s =
      let row : (q : ℕ) → d.row pool'.device q ≡ (book pool).pages q = λ q. all_settled pool' (λ i h. s.clean i (omega (arith, h)) h) q ∙ ap (λ (x : Book). x.pages q) s.next in
      let co : course pool' ≡ course pool = λ j. record { model = p.model (s.policy j); hits = s.hits j; fetches = s.fetches j } in
      record {
        outcomes = [];
        doing = record {
          step = record { answer = refl; after = s.next; moved = λ q. inr (row q); flushed = λ q f. row q };
          turned = (co, refl);
        };
        refused = λ r h. absurd (some-none r (sym h));
        still = λ h. absurd (false≢true (sym h));
        apart = λ q h. absurd (false≢true (sym h));
      }

  pub flushed-all : (pool pool' : Pool D P d p) → Did pool FlushAll Done pool' → (q : ℕ) → d.row pool'.device q ≡ (book pool).pages q
  flushed-all pool pool' h q = h.doing.step.flushed q (record { accepted = refl; named = refl })
