use Rattle.std.proofs.Common.{◌≡◌, drop}
use Rattle.std.specs.List.{list_all}
use Rattle.defs_read.specs.Defined.{queues_in}
use Rattle.resume_core.specs.Live.{has_queue}
use Rattle.resume_core.proofs.numbers.are_defined.Given as goal

abbrev pub invariant-entries : goal.invariant-entries
invariant-entries l = list_all (has_queue (queues_in l.defs)) (drop l.entry-index l.live) ≡ list_all (has_queue (queues_in l.defs)) l.live
