use Rattle.target_core.proofs.Places.{taken_out}
use Rattle.target_core.proofs.rosters.Roster.close.Goals as goal

pub returns-clause-drops : goal.returns-clause-drops
returns-clause-drops g c = taken_out _ _ _ _ c.take.ensures.after
