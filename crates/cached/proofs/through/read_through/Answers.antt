use Rattle.book.specs.declared.grant.Kind.TheVariants.{Reading}
use Rattle.cached.proofs.Reading.{read_page, page_long, told}
use Rattle.cached.proofs.through.read_through.Goals as goal

pub returns : goal.returns
returns g c =
    let pool = c.args.pool.now in
    let page = c.args.page in
    let h = c.in_ok-grant.ensures in
    read_page pool c.grant.new.pool c.unfix.new.self page _ c.args.buffer.now c.read-read.new.buffer c.read-read.result _ c.requires h.0 (page_long pool Reading page h.0) h.2 (told Reading c.in_ok-grant.grant h.1) c.told-buffer c.read-read.ensures c.unfix.ensures
