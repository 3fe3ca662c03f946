use Rattle.std.proofs.Common.{◌≡◌, ◌++◌, take}
use Rattle.std.specs.List.{flat_map}
use Rattle.selector_read.specs.Writing.{after_comma}
use Rattle.selector_read.proofs.writing_pieces.put_after_commas.Given as goal

abbrev pub invariant-loop-text : goal.invariant-loop-text
invariant-loop-text l = l.out.items ≡ l.fn.out.items ++ flat_map after_comma (take l.text-index l.list)
