use Rattle.std.proofs.Common.{◌≡◌, ◌≤◌, take}
use Rattle.std.specs.List.{sum_by}
use Rattle.defs_read.specs.Defined.{queues_in}
use Rattle.workers_core.specs.Drops.{displaces}
use Rattle.phase_actors.proofs.rooms.displaced_in.Given as goal

abbrev pub invariant-lines : goal.invariant-lines
invariant-lines l = record {
  counted : l.displaced ≡ sum_by (λ op. displaces (queues_in l.defs) op.what) (take l.op-index l.ops);
  few : l.displaced ≤ l.op-index;
}
