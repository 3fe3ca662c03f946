use Rattle.held_table.specs.Sights.{sight}
use Rattle.any_queue.proofs.HeldParts.{is_joined}
use Rattle.any_queue.proofs.held.join_held.Goals as goal

pub returns-clause-joined : goal.returns-clause-joined
returns-clause-joined g c = is_joined (sight c.args.into.now) (sight c.args.gone) (sight c.join.new.into) c.join.ensures.joined
