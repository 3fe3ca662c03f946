use Rattle.queue_model.specs.declared.queues.Queue.{Queue}
use Rattle.acts_core.specs.Kept.{Stands}
use Rattle.sorted_core.proofs.tests.taken_in_order.Given as goal

abbrev pub invariant-loop-next : goal.invariant-loop-next
invariant-loop-next l = record { stands : (q : Queue) × Stands l.queue q }
