use Rattle.std.proofs.Common.{◌≡◌, vec_len}
use Rattle.broker_top.proofs.phase_tests.takes_beside_each_other.Given as goal

abbrev pub invariant-loop-consumer : goal.invariant-loop-consumer
invariant-loop-consumer g l = vec_len l.both ≡ l._consumer
