use Rattle.std.proofs.Common.{◌≡◌, vec_len}
use Rattle.phase_queues.specs.Closed.{ToldBelow}
use Rattle.phase_queues.proofs.closing.tell_all.Given as goal

abbrev pub invariant-loop-at : goal.invariant-loop-at
invariant-loop-at l = (vec_len l.rests ≡ vec_len l.fn.rests) × ToldBelow l.at l.fn.rests.items l.left l.rests.items
