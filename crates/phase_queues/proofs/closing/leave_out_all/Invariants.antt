use Rattle.std.proofs.Common.{◌≡◌, vec_len}
use Rattle.phase_queues.specs.Closed.{LastingBelow}
use Rattle.phase_queues.proofs.closing.leave_out_all.Given as goal

abbrev pub invariant-loop-at : goal.invariant-loop-at
invariant-loop-at l = (vec_len l.left ≡ vec_len l.fn.left) × LastingBelow l.at l.fn.left.items l.left.items
