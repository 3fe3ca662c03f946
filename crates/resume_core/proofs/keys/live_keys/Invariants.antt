use Rattle.std.proofs.Common.{◌≡◌, [], drop, take}
use Rattle.defs_read.specs.Defined.{queues_in}
use Rattle.resume_core.specs.Faults.{has_double}
use Rattle.resume_core.specs.Steps.{HasKeys}
use Rattle.resume_core.proofs.keys.live_keys.Given as goal

abbrev pub invariant-entries : goal.invariant-entries
invariant-entries l = record {
  same : has_double (take l.entry-index l.live) (drop l.entry-index l.live) ≡ has_double [] l.live;
  has : HasKeys (queues_in l.defs) (take l.entry-index l.live) l.keys;
}
