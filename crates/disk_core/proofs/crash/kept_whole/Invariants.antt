use Rattle.std.proofs.Common.{◌≤◌, length, drop}
use Rattle.std.specs.List.{All}
use Rattle.disk_core.specs.Memory.{IsWrite}
use Rattle.disk_core.proofs.crash.kept_whole.Given as goal

abbrev pub invariant-loop-at : goal.invariant-loop-at
invariant-loop-at l = (l.at ≤ length l.moves) × All IsWrite (drop l.at l.moves)

abbrev pub decreases-loop-at : goal.decreases-loop-at
decreases-loop-at l = l.at
