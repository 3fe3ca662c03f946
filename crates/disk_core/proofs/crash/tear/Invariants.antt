use Rattle.std.proofs.Common.{◌≡◌, List, ℕ, take, length}
use Rattle.disk_core.specs.Trails.{IsImage}
use Rattle.disk_core.specs.Memory.{steps_of}
use Rattle.disk_core.proofs.crash.tear.Given as goal

abbrev pub invariant-loop-i : goal.invariant-loop-i
invariant-loop-i l = ((first : List ℕ) → IsImage first (steps_of l.written (take l.kept l.moves)) l.initial.image.items →
    IsImage first (steps_of l.written (take l.i l.moves)) l.image.items) × (l.kept ≡ length l.moves → l.image.items ≡ l.initial.image.items)
