use Rattle.std.proofs.Common.{ap, sym, ◌∙◌, ◌++◌, arith, length, length-append, take, append_assoc, List, ℕ}
use Rattle.std.specs.List.{flat_map}
use Rattle.std.proofs.lemmas.List.Folds.{length-flat_map-take}
use Rattle.journal_format.specs.Spelling.{txn_bytes}
use Rattle.journal_format.proofs.TxnLists.{bytes_of, bytes_more}
use Rattle.journal_format.proofs.batches.put_txns.Goals as goal

pub encode-requires : goal.encode-requires
encode-requires c =
    omega (
      arith,
      length-flat_map-take bytes_of c.args.txns.now c.loop-txn.txn-index c.txn-item.result c.loop-txn-test.true,
      ap (λ t. length (bytes_of t)) c.txn-item.is,
      ap length c.loop-txn.invariant.bytes,
      length-append c.args.into.now.bytes (flat_map bytes_of (take c.loop-txn.txn-index c.args.txns.now)),
    )
