use Rattle.std.proofs.Common.{◌≡◌, take}
use Rattle.std.specs.List.{list_any}
use Rattle.defs_read.specs.Defined.{queues_in}
use Rattle.workers_core.specs.Drops.{puts_to_ring}
use Rattle.phase_actors.proofs.rooms.any_to_ring.Given as goal

abbrev pub invariant-lines : goal.invariant-lines
invariant-lines l = record {
  told : l.any ≡ list_any (λ op. puts_to_ring (queues_in l.defs) op.what) (take l.op-index l.ops);
}
