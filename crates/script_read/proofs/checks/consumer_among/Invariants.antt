use Rattle.std.proofs.Common.{◌≡◌, ◌&&◌, drop}
use Rattle.std.specs.List.{find}
use Rattle.std.specs.Str.{bytes_eq}
use Rattle.script_read.proofs.checks.consumer_among.Given as goal

abbrev pub invariant-loop-consumer : goal.invariant-loop-consumer
invariant-loop-consumer l =
    find (λ c. bytes_eq c.name l.name && bytes_eq c.actor l.actor) l.consumers ≡ find (λ c. bytes_eq c.name l.name && bytes_eq c.actor l.actor) (drop l.consumer-index l.consumers)
