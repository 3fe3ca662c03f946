use Rattle.std.proofs.Common.{◌≡◌, take}
use Rattle.disk_core.specs.Trails.{content}
use Rattle.disk_core.specs.Memory.{steps_of}
use Rattle.disk_core.proofs.crash.replay.Given as goal

abbrev pub invariant-loop-i : goal.invariant-loop-i
invariant-loop-i l = l.image.items ≡ content l.initial.image.items (steps_of l.written (take l.i l.moves))
