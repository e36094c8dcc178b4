use Rattle.std.proofs.Common.{refl}
use Rattle.book.proofs.figures.cases_bound.Goals as goal

pub returns : goal.returns
returns c = record { fifth = refl; ends = refl; reads = refl; copies = refl; absent = refl; back = refl; many = refl; origins = refl; time = refl }
