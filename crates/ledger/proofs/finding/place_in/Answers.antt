use Rattle.std.proofs.Common.{◌≡◌, true, false, ◌&&◌, nat_lt, rules}
use Rattle.std.proofs.lemmas.Iterator.{first_from_Range}
use Rattle.ledger.specs.Finding.{stands_at}
use Rattle.ledger.proofs.Placing.{place_found}
use Rattle.ledger.proofs.finding.place_in.Goals as goal

pub returns : goal.returns
returns c =
    place_found c.args.kept c.args.page.now c.args.number c.find.result
    (first_from_Range _ _ _ c.find.result
    (λ k. (nat_lt k 16 && stands_at c.args.kept c.args.page.now k c.args.number) ≡ true)
    (λ k. (nat_lt k 16 && stands_at c.args.kept c.args.page.now k c.args.number) ≡ false)
    c.find.ensures.ran (λ x q k. search rules) (λ x q k. search rules))
