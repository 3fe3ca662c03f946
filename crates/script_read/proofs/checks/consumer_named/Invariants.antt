use Rattle.std.proofs.Common.{◌≡◌, ◌&&◌, drop}
use Rattle.std.specs.Str.{bytes_eq}
use Rattle.script_read.proofs.Names.{number_of, all_consumers}
use Rattle.script_read.proofs.checks.consumer_named.Given as goal

abbrev pub invariant-loop-queue : goal.invariant-loop-queue
invariant-loop-queue l =
    number_of (λ c. bytes_eq c.name l.name && bytes_eq c.actor l.actor) (all_consumers l.defs.queues.items) ≡ number_of (λ c. bytes_eq c.name l.name && bytes_eq c.actor l.actor) (all_consumers (drop l.queue-index l.defs.queues.items))
