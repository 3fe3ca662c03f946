use Rattle.std.proofs.Common.{length, ◌≡◌, ◌≤◌, [], filter, drop}
use Rattle.line_core.specs.Hands.{is_of}
use Rattle.workers_core.specs.Held.{hands_of}
use Rattle.workers_core.proofs.held.at_last.Given as goal

abbrev pub invariant-loop-i : goal.invariant-loop-i
invariant-loop-i l = (l.i ≤ length l.held) × (filter (is_of l.queue) (drop l.i (hands_of l.held)) ≡ [])

abbrev pub decreases-loop-i : goal.decreases-loop-i
decreases-loop-i l = l.i
