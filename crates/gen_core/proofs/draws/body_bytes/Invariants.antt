use Rattle.std.proofs.Common.{◌≡◌, ◌*◌, ◌≤◌}
use Rattle.gen_core.specs.Draws.{number_after}
use Rattle.gen_core.specs.Generated.{body_bytes}
use Rattle.gen_core.proofs.draws.body_bytes.Given as goal

-- the number is that of the last message, and the bytes are those of the messages up to it
abbrev pub invariant-loop-before : goal.invariant-loop-before
invariant-loop-before l = record { number : l.x ≡ number_after l.fn.number l._before; bytes : l.bytes ≡ body_bytes l.fn.number l._before; small : l.bytes ≤ 64 * l._before }
