use Rattle.pool.specs.Meaning.{book}
use Rattle.ledger.proofs.Numbering.{both-found, no-batch, no-fee, spots}
use Rattle.ledger.proofs.Undisturbing.{both, not_found, found-then}
use Rattle.ledger.proofs.numbered.settle_number.Goals as goal

pub returns-in_default : goal.returns-in_default
returns-in_default g c =
    not_found c.args.shelves c.args.number c.args.pool.now c.find.new.pool (record { page = 0; place = 0 }) (record { page = 0; place = 0 }) _ c.in_default.ensures.undisturbed
    (no-batch c.args.shelves c.args.number (book c.args.pool.now) c.in_default.ensures.answer)

pub returns-in_default-find : goal.returns-in_default-find
returns-in_default-find g c =
    let pool = c.args.pool.now in
    let one = c.in-Some.ensures in
    let two = c.in_default-find.ensures in
    not_found c.args.shelves c.args.number pool c.find-2.new.pool c.in-Some.batch c.in-Some.batch _ (both pool c.find.new.pool c.find-2.new.pool one.undisturbed two.undisturbed)
    (no-fee c.args.shelves c.args.number (book pool) c.in-Some.batch (book c.find.new.pool) one.answer one.next two.answer)

pub returns : goal.returns
returns g c =
    let pool = c.args.pool.now in
    let b = book pool in
    let mid = book c.find.new.pool in
    let x = c.in-Some.batch in
    let y = c.in-Some-find.fee in
    let one = c.in-Some.ensures in
    let two = c.in-Some-find.ensures in
    let u = both pool c.find.new.pool c.find-2.new.pool one.undisturbed two.undisturbed in
    found-then c.args.shelves c.args.number pool c.find-2.new.pool c.settle.new.pool x y c.settle.result u c.settle.ensures.did
    (spots c.args.shelves c.args.number b x mid one.answer one.next y two.answer)
    (both-found c.args.shelves c.args.number b x mid one.answer one.next y (book c.find-2.new.pool) c.settle.result two.answer two.next c.settle.ensures.answer)
