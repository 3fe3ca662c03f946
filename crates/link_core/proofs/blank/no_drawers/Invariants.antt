use Rattle.std.proofs.Common.{◌≡◌, None, replicate}
use Rattle.link_core.proofs.blank.no_drawers.Given as goal

abbrev pub invariant-loop : goal.invariant-loop
invariant-loop l = l.drawers.items ≡ replicate l.counter None
