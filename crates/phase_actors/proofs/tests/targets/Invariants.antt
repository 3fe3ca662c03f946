use Rattle.std.proofs.Common.{◌≡◌, vec_len}
use Rattle.phase_actors.proofs.tests.targets.Given as goal

abbrev pub invariant-loop-count : goal.invariant-loop-count
invariant-loop-count g l = vec_len l.targets ≡ l.count
