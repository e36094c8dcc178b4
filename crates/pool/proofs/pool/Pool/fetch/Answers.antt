use Rattle.pool.proofs.Evicting.{still_fetchable}
use Rattle.pool.proofs.pool.Pool.fetch.Goals as goal

pub admit-requires-clause-page : goal.admit-requires-clause-page
admit-requires-clause-page g c = still_fetchable c.args.self.now c.evict.new.self c.args.kind c.args.page c.args.t c.args.vacancy c.evict.ensures c.requires
