use Rattle.std.proofs.Common.{◌≡◌, drop}
use Rattle.resume_core.specs.Lines.{first_line, sooner}
use Rattle.resume_core.specs.Steps.{puts_key}
use Rattle.resume_core.proofs.doubles.first_of_actor.Given as goal

abbrev pub invariant-lines : goal.invariant-lines
invariant-lines l = sooner l.found (first_line (λ op. puts_key l.keys op.what) (drop l.op-index l.ops)) ≡ first_line (λ op. puts_key l.keys op.what) l.ops
