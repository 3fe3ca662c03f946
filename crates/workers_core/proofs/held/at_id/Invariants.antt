use Rattle.std.proofs.Common.{length, ◌-◌, ◌≡◌, ◌≤◌, None, find, take}
use Rattle.line_core.specs.Hands.{is_this}
use Rattle.workers_core.specs.Held.{hands_of}
use Rattle.workers_core.proofs.held.at_id.Given as goal

abbrev pub invariant-loop-i : goal.invariant-loop-i
invariant-loop-i l = (l.i ≤ length l.held) × (find (is_this l.queue l.id) (take l.i (hands_of l.held)) ≡ None)

abbrev pub decreases-loop-i : goal.decreases-loop-i
decreases-loop-i l = length l.held - l.i
