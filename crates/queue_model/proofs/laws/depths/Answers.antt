use Rattle.queue_model.proofs.Depths.{depth_reserving, depth_giving, depth_kept, depth_low}
use Rattle.queue_model.proofs.laws.depths.Goals as goal

pub returns-clause-reserve : goal.returns-clause-reserve
returns-clause-reserve c = depth_reserving

pub returns-clause-give_back : goal.returns-clause-give_back
returns-clause-give_back c = depth_giving

pub returns-clause-kept : goal.returns-clause-kept
returns-clause-kept c = depth_kept

pub returns-clause-low : goal.returns-clause-low
returns-clause-low c = depth_low
