use Rattle.std.proofs.Common.{◌≡◌, drop, not}
use Rattle.broker_top.specs.Built.{is_built_line}
use Rattle.broker_top.specs.Sooner.{first_line, sooner}
use Rattle.broker_top.proofs.built.first_of_actor.Given as goal

abbrev pub invariant-lines : goal.invariant-lines
invariant-lines l = sooner l.found (first_line (λ op. not (is_built_line op.what)) (drop l.op-index l.ops)) ≡ first_line (λ op. not (is_built_line op.what)) l.ops
