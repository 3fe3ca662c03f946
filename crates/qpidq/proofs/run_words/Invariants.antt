use Rattle.std.proofs.Common.{◌≡◌, vec_len}
use Rattle.qpidq.proofs.run_words.Given as goal

abbrev pub invariant-consumers : goal.invariant-consumers
invariant-consumers g l = vec_len l.targets ≡ l._consumer
