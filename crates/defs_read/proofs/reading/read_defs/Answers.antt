use Rattle.std.proofs.Common.{map}
use Rattle.serde_json.specs.View.{view}
use Rattle.defs_read.specs.Defined.{defined}
use Rattle.defs_read.proofs.Bounds.{allowed}
use Rattle.defs_read.proofs.reading.read_defs.Goals as goal

pub returns-clause-few : goal.returns-clause-few
returns-clause-few c = (allowed (view c.in-Ok.value) (map defined c.in_ok-queues.queues.items) c.in_ok-queues.ensures.0 c.in_ok-queues.ensures.1).few

pub returns-clause-allowed : goal.returns-clause-allowed
returns-clause-allowed c = allowed (view c.in-Ok.value) (map defined c.in_ok-queues.queues.items) c.in_ok-queues.ensures.0 c.in_ok-queues.ensures.1
