use Rattle.broker_top.proofs.Generating.{ends_generated}
use Rattle.broker_top.proofs.generated.run_generated.Goals as goal

pub returns : goal.returns
returns g c = ends_generated _ _ _ _ _ _ _ c.of-roster.ensures c.finish.ensures _ _ _ _ c.tally_generated-tallied.result c.tally_generated-tallied.ensures c.tell_tallied-status.ensures
