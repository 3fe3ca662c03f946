use Rattle.held_table.specs.Sights.{sight}
use Rattle.any_queue.proofs.HeldParts.{is_split}
use Rattle.any_queue.proofs.held.split_held.Goals as goal

pub returns-clause-split : goal.returns-clause-split
returns-clause-split g c = is_split (sight c.args.boss.now) (sight c.split.new.boss) (sight c.split.result) c.args.consumers.now c.args.allowance c.split.ensures.split
