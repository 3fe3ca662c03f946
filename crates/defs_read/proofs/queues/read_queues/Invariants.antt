use Rattle.std.proofs.Common.{drop}
use Rattle.serde_json.specs.View.{items_view}
use Rattle.defs_read.specs.Steps.{names_of}
use Rattle.defs_read.proofs.QueueLoop.{QueuesLeft}
use Rattle.defs_read.proofs.queues.read_queues.Given as goal

abbrev pub invariant-loop-value : goal.invariant-loop-value
invariant-loop-value l = QueuesLeft (items_view l.list) (names_of l.queue_names) (names_of l.consumer_names) l.queues.items (items_view (drop l.value-index l.list))
