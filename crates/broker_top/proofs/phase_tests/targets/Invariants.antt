use Rattle.std.proofs.Common.{◌≡◌, vec_len}
use Rattle.broker_top.proofs.phase_tests.targets.Given as goal

abbrev pub invariant-loop-consumer : goal.invariant-loop-consumer
invariant-loop-consumer g l = vec_len l.targets ≡ l._consumer
