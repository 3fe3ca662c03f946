use Rattle.queue_model.specs.declared.queues.Queue.{Queue}
use Rattle.acts_core.specs.Kept.{Stands}
use Rattle.sorted_core.proofs.tests.put_random.Given as goal

abbrev pub invariant-loop-id : goal.invariant-loop-id
invariant-loop-id l = record { stands : (q : Queue) × Stands l.queue q }
