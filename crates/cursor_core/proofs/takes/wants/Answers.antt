use Rattle.std.proofs.Common.{◌≡◌, rules, arith}
use Rattle.std.proofs.lemmas.Nat.Bits.{bit_at_above}
use Rattle.std.specs.Int.{bit_at}
use Rattle.cursor_core.proofs.takes.wants.Goals as goal

pub returns-else-consumer-lt64 : goal.returns-else-consumer-lt64
returns-else-consumer-lt64 c =
    let none : bit_at c.args.mask c.args.consumer ≡ 0 = bit_at_above c.args.mask 64 c.args.consumer c.ranges.mask.fits c.if-consumer-lt64.false in
    (λ t. absurd (search rules), λ e. absurd (omega (arith, none, e)))
