use Rattle.std.proofs.Common.{drop}
use Rattle.serde_json.specs.View.{items_view}
use Rattle.defs_read.specs.Steps.{names_of}
use Rattle.defs_read.proofs.ConsumerLoop.{ConsumersLeft}
use Rattle.defs_read.proofs.consumers.read_consumers.Given as goal

abbrev pub invariant-loop-value : goal.invariant-loop-value
invariant-loop-value l = ConsumersLeft (names_of l.fn.names) (items_view l.list) (names_of l.names) l.consumers.items (items_view (drop l.value-index l.list))
