use Rattle.records.specs.KindLaws.{batch_laws, fee_laws}
use Rattle.records.proofs.Trips.{inverse}
use Rattle.records.proofs.records_round_trip.Goals as goal

pub returns : goal.returns
returns c = record { batches = inverse batch_laws; fees = inverse fee_laws }
