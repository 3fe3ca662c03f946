use Rattle.std.proofs.Common.{◌≡◌, ◌++◌}
use Rattle.link_core.specs.Fresh.{blank_rows}
use Rattle.link_core.proofs.blank.add_rows.Given as goal

abbrev pub invariant-loop : goal.invariant-loop
invariant-loop l = l.words.items ≡ l.fn.words.items ++ blank_rows l.counter
