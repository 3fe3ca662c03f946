use Rattle.std.proofs.Common.{◌≡◌}
use Rattle.gen_core.specs.Draws.{number_after}
use Rattle.gen_core.specs.Generated.{puts}
use Rattle.gen_core.proofs.lines.puts.Given as goal

-- the number is that of the last message, and the lines are those up to it
abbrev pub invariant-loop-before : goal.invariant-loop-before
invariant-loop-before l = record { number : l.x ≡ number_after l.fn.first l.before; lines : l.ops.items ≡ puts l.fn.first l.before l.fn.putter }
