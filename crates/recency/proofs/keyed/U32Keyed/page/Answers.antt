use Rattle.std.proofs.Common.{refl}
use Rattle.recency.proofs.keyed.U32Keyed.page.Goals as goal

pub returns : goal.returns
returns c = refl
