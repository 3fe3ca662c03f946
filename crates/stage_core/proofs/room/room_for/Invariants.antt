use Rattle.std.proofs.Common.{◌≡◌, ◌≤◌, ◌+◌, min, drop}
use Rattle.defs_read.specs.Defined.{queues_in}
use Rattle.stage_core.specs.Items.{names_in}
use Rattle.stage_core.specs.Room.{lines_bytes, most_bytes}
use Rattle.stage_core.proofs.room.room_for.Given as goal

abbrev pub invariant-lines : goal.invariant-lines
invariant-lines l = record {
  same :
      min (l.room + lines_bytes (names_in (queues_in l.defs)) (drop l.op-index l.ops)) most_bytes
      ≡ min (lines_bytes (names_in (queues_in l.defs)) l.ops) most_bytes;
  low : l.room ≤ most_bytes;
}
