use Rattle.std.proofs.Common.{subst, arith}
use Rattle.std.proofs.lemmas.List.Elements.{All-more}
use Rattle.journal_format.specs.Filled.{Filled, IsLimited}
use Rattle.journal_format.proofs.TxnLists.{size_more}
use Rattle.journal_format.proofs.batches.txns_size.Goals as goal

pub loop-txn-preserved : goal.loop-txn-preserved
loop-txn-preserved c =
    let t = c.txn-item.result in
    record {
      size = omega (arith, c.len-size.ensures.len, c.loop-txn.invariant.size, size_more c.args.txns.now c.loop-txn.txn-index t c.loop-txn-test.true c.txn-item.is);
      most = omega (arith, c.len-size.ensures.len, c.len-size.ensures.limited.short, c.loop-txn.invariant.most);
      limited = All-more (λ t. IsLimited t.items) c.args.txns.now c.loop-txn.txn-index t c.loop-txn-test.true c.loop-txn.invariant.limited (subst (λ (x : Filled). IsLimited x.items) c.txn-item.is c.len-size.ensures.limited);
    }
