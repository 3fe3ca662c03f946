use Rattle.queue_model.proofs.Owns.{lock_stays, gains}
use Rattle.queue_model.proofs.laws.locks.Goals as goal

pub returns-clause-stays : goal.returns-clause-stays
returns-clause-stays c = lock_stays

pub returns-clause-gains : goal.returns-clause-gains
returns-clause-gains c = gains
