use Rattle.book.specs.declared.grant.Kind.TheVariants.{Updating}
use Rattle.cached.proofs.Reading.{page_long, told}
use Rattle.cached.proofs.Writing.{write_page}
use Rattle.cached.proofs.through.write_through.Goals as goal

pub returns : goal.returns
returns g c =
    let pool = c.args.pool.now in
    let page = c.args.page in
    let h = c.in_ok-grant.ensures in
    write_page pool c.grant.new.pool c.write-wrote.new.self c.unfix.new.self page _ c.args.bytes.now c.write-wrote.result _ c.requires h.0 (page_long pool Updating page h.0) h.2 (told Updating c.in_ok-grant.grant h.1) c.told-bytes c.write-wrote.ensures c.unfix.ensures
