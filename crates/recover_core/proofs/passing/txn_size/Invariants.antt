use Rattle.std.proofs.Common.{◌≡◌, ◌+◌, length, take}
use Rattle.std.specs.List.{flat_map}
use Rattle.journal_format.specs.Spelling.{item_bytes}
use Rattle.recover_core.proofs.passing.txn_size.Given as goal

abbrev pub invariant-loop-item : goal.invariant-loop-item
invariant-loop-item l = l.size ≡ 4 + length (flat_map item_bytes (take l.item-index l.items))
