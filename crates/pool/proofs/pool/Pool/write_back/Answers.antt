use Rattle.std.proofs.Common.{◌≡◌, ℕ, Some, Option, sym, refl, ap, ◌∙◌, subst}
use Rattle.device.specs.Row.{Page, over_at}
use Rattle.book.specs.declared.grant.Kind.TheVariants.{Reading, Updating}
use Rattle.frames.specs.Table.{Frame, frame, at, page_in, with}
use Rattle.pool.specs.Meaning.{shown, pins_at}
use Rattle.pool.specs.Tied.{Stands}
use Rattle.pool.specs.Steps.{cleaned}
use Rattle.pool.proofs.Books.{same-book}
use Rattle.pool.proofs.Changes.{put-each, put-tied}
use Rattle.pool.proofs.Places.{at_here}
use Rattle.pool.proofs.Standing.{stands_at}
use Rattle.pool.proofs.Storing.{stored, over-over, cleaned-stands}
use Rattle.pool.proofs.pool.Pool.write_back.Goals as goal

pub invariant_of-self : goal.invariant_of-self
invariant_of-self g c =
    let d = g.D.Device in
    let pool = c.args.self.now in
    let n = pool.frames.used in
    let F = frame pool.frames in
    let i = c.args.place.index in
    let f = F i in
    let p = page_in f in
    let row = d.row pool.device in
    let did = c.write_back.ensures.did in
    let is : (j : ℕ) → frame c.write_back.new.self j ≡ with F i (cleaned f) j = λ j. c.write_back.ensures.frames j ∙ ap (λ (x : Frame). with F i x j) did.frame in
    let st : Stands (Some f) (row p) = stands_at n F row _ _ pool.tied i p c.requires refl in
    let w = stored d f (frame c.write_back.new.self i) pool.device c.write_back.new.device did st in
    let S : Option Page → Type 0 = λ o. Stands (Some (cleaned f)) o in
    record {
      tied = put-tied n F i (cleaned f) c.write_back.new.self.used (frame c.write_back.new.self) c.write_back.ensures.used c.requires pool.tied.once refl is row (d.row c.write_back.new.device) _ _ _ _ pool.tied (subst S (sym w.here) (cleaned-stands f (row p) st)) w.other (λ q. refl) refl;
      counts = pool.counts;
    }

pub returns : goal.returns
returns g c =
    let low = c.requires in
    let d = g.D.Device in
    let pool = c.args.self.now in
    let n = pool.frames.used in
    let F = frame pool.frames in
    let i = c.args.place.index in
    let f = F i in
    let p = page_in f in
    let F' = frame c.write_back.new.self in
    let row = d.row pool.device in
    let row' = d.row c.write_back.new.device in
    let did = c.write_back.ensures.did in
    let is : (j : ℕ) → F' j ≡ with F i (cleaned f) j = λ j. c.write_back.ensures.frames j ∙ ap (λ (x : Frame). with F i x j) did.frame in
    let once = pool.tied.once in
    let st : Stands (Some f) (row p) = stands_at n F row _ _ pool.tied i p low refl in
    let w = stored d f (F' i) pool.device c.write_back.new.device did st in
    let here : at n F p ≡ Some f = at_here n F i p once low refl in
    let n' = c.write_back.new.self.used in
    let used = c.write_back.ensures.used in
    record {
      next = same-book _ _ w.size refl refl refl
          (put-each n F i (cleaned f) n' F' used low once refl is (λ o q. shown o (row' q)) (λ q. shown (at n F q) (row q))
          (ap (λ (o : Option Page). over_at o f.bytes) w.here ∙ over-over (row p) f.bytes f.bytes ∙ sym (ap (λ (o : Option Frame). shown o (row p)) here))
          (λ q ne. ap (shown (at n F q)) (w.other q ne)))
          (put-each n F i (cleaned f) n' F' used low once refl is (λ o q. pins_at Reading o) (λ q. pins_at Reading (at n F q)) (sym (ap (pins_at Reading) here)) (λ q ne. refl))
          (put-each n F i (cleaned f) n' F' used low once refl is (λ o q. pins_at Updating o) (λ q. pins_at Updating (at n F q)) (sym (ap (pins_at Updating) here)) (λ q ne. refl));
      policy = refl;
      hits = refl;
      fetches = refl;
      used = used;
      frames = is;
      other = λ q ne. w.other q (λ e. ne (sym e));
    }
