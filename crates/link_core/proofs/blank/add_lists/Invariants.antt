use Rattle.std.proofs.Common.{◌≡◌, ◌++◌}
use Rattle.link_core.specs.Fresh.{empty_lists}
use Rattle.link_core.proofs.blank.add_lists.Given as goal

abbrev pub invariant-loop : goal.invariant-loop
invariant-loop l = l.words.items ≡ l.fn.words.items ++ empty_lists l.counter
