use Rattle.std.proofs.Common.{◌≡◌}
use Rattle.gen_core.specs.Generated.{rounds}
use Rattle.gen_core.proofs.lines.rounds.Given as goal

abbrev pub invariant-loop-round : goal.invariant-loop-round
invariant-loop-round l = l.ops.items ≡ rounds l.fn.actor l.fn.consumer l.fn.line l.fn.stride l.round
