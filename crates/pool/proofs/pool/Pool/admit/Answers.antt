use Rattle.std.proofs.Common.{◌≡◌, ◌+◌, true, false, sym, refl, ap, ◌∙◌, inl, arith}
use Rattle.std.proofs.lemmas.Bool.{both_ways, cond-false}
use Rattle.policy.specs.declared.outcome.Outcome.TheVariants.{Hit, Fetch}
use Rattle.frames.specs.Table.{frame, idle}
use Rattle.pool.proofs.Admitting.{asked, accepted, away, gone, loaded-tied, loaded-pages, loaded-reading, loaded-updating}
use Rattle.pool.proofs.Books.{same-book}
use Rattle.pool.proofs.Choosing.{candidates}
use Rattle.pool.proofs.Taking.{saturated}
use Rattle.pool.proofs.pool.Pool.admit.Goals as goal

pub invariant_of-self : goal.invariant_of-self
invariant_of-self g c =
    let r = c.requires.page in
    let clean = c.requires.clean in
    let pool = c.args.self.now in
    let kind = c.args.kind in
    let q = c.args.page in
    let t = c.args.t in
    let v = c.args.vacancy in
    let ok : c.admit.result ≡ true = c.admit.ensures.answer ∙ accepted pool kind q t v r clean in
    let count : c.saturating_add-self.result ≡ pool.fetches + 1 = c.saturating_add-self.ensures ∙ saturated pool.fetches pool.hits pool.clock (omega (arith, pool.counts)) (asked pool kind q t v r clean).time in
    record {
      tied = loaded-tied pool kind q t v r clean c.load.new.self c.load.new.device c.load.ensures.used c.load.ensures.frames c.load.ensures.did _ _ (c.admit.ensures.resident ok) (c.admit.ensures.size ok);
      counts = omega (arith, count, r.time, pool.counts);
    }

pub returns : goal.returns
returns g c =
    let r = c.requires.page in
    let clean = c.requires.clean in
    let pool = c.args.self.now in
    let kind = c.args.kind in
    let q = c.args.page in
    let t = c.args.t in
    let v = c.args.vacancy in
    let res = g.P.Policy.resident (g.P.Policy.model pool.policy) in
    let fs = c.load.new.self in
    let used = c.load.ensures.used in
    let is = c.load.ensures.frames in
    let did = c.load.ensures.did in
    let w = did.read.1 in
    let out : res q ≡ false = away pool kind q t v r clean in
    let ok : c.admit.result ≡ true = c.admit.ensures.answer ∙ accepted pool kind q t v r clean in
    let count : c.saturating_add-self.result ≡ pool.fetches + 1 = c.saturating_add-self.ensures ∙ saturated pool.fetches pool.hits pool.clock (omega (arith, pool.counts)) (asked pool kind q t v r clean).time in
    record {
      took = record {
        next = same-book _ _ w.size c.admit.ensures.bound refl refl
            (loaded-pages pool kind q t v r clean fs c.load.new.device used is did)
            (loaded-reading pool kind q t v r clean fs c.load.new.device used is did)
            (loaded-updating pool kind q t v r clean fs c.load.new.device used is did);
        outcome = Fetch v.leaving;
        turn = record {
          listed = idle pool.frames.used (frame pool.frames);
          exact = candidates pool.frames.used (frame pool.frames) _ _ _ pool.tied;
          outcome = ap Fetch r.vacant.leaving ∙ sym (cond-false (res q) Hit _ out);
          course = λ k. record { model = c.admit.ensures.step ok k; hits = pool.hits; fetches = count k };
          resident = c.admit.ensures.resident ok;
        };
        left = λ k l. (gone pool kind q t v r clean k l, λ e. both_ways (res q) out (ap res (sym e) ∙ gone pool kind q t v r clean k l));
        below = λ k. inl (w.row k);
      };
      fetched = refl;
      row = w.row;
    }
