use Rattle.journal_format.proofs.BatchBytes.{batch_again, batch_size}
use Rattle.journal_format.proofs.laws.batches.Goals as goal

pub returns-clause-round_trip : goal.returns-clause-round_trip
returns-clause-round_trip c = batch_again

pub returns-clause-size_of : goal.returns-clause-size_of
returns-clause-size_of c = batch_size
