use Rattle.any_queue.proofs.Parting.{all_callers}
use Rattle.any_queue.proofs.lists.close_listed.Goals as goal

pub close-requires-clause-every : goal.close-requires-clause-every
close-requires-clause-every g c = all_callers c.args.boss c.requires.last

pub close-requires-clause-settled : goal.close-requires-clause-settled
close-requires-clause-settled g c = c.requires.last.settled
