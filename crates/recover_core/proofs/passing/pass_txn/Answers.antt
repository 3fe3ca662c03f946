use Rattle.std.proofs.Common.{◌-◌}
use Rattle.recover_core.proofs.Passes.{items_step}
use Rattle.recover_core.proofs.passing.pass_txn.Goals as goal

pub items-preserved : goal.items-preserved
items-preserved c =
    items_step (c.args.end - c.txn_size.result) c.items.end c.size-size.result c.args.txn c.items.left c.pop.new.self c.in-Some.item c.args.gone.now c.items.gone c.pass_item.new.gone c.args.entries.now.items c.items.entries.items c.pass_item.new.entries.items
    c.items.invariant c.in-Some.ensures c.size-size.ensures c.in_ok-pass_item.ensures
