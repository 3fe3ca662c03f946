use Rattle.recover_core.specs.Passed.{first_place}
use Rattle.recover_core.proofs.Passes.{txns_step}
use Rattle.recover_core.proofs.passing.pass_batch.Goals as goal

pub txns-preserved : goal.txns-preserved
txns-preserved c =
    txns_step (first_place c.args.batch) c.txns.end c.in_ok-end.end c.args.batch.txns c.txns.left c.pop.new.self c.in-Some.txn c.args.gone.now c.txns.gone c.pass_txn.new.gone c.args.entries.now.items c.txns.entries.items c.pass_txn.new.entries.items
    c.txns.invariant c.in-Some.ensures c.in_ok-end.ensures.place c.in_ok-end.ensures.passed
