use Rattle.std.proofs.Common.{length, ap, arith}
use Rattle.std.proofs.lemmas.List.Folds.{length-flat_map-take}
use Rattle.journal_format.specs.Spelling.{item_bytes}
use Rattle.recover_core.proofs.passing.txn_size.Goals as goal

pub overflow_add-size : goal.overflow_add-size
overflow_add-size c =
    omega (arith, c.requires, c.size-size.ensures, c.loop-item.invariant, length-flat_map-take item_bytes c.args.items.now c.loop-item.item-index c.item-item.result c.loop-item-test.true, ap (λ i. length (item_bytes i)) c.item-item.is)
