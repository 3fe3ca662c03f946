use Rattle.std.proofs.Common.{◌≡◌, ◌++◌, ◌≤◌, take}
use Rattle.std.specs.List.{flat_map}
use Rattle.journal_format.specs.Spelling.{txn_bytes}
use Rattle.journal_format.proofs.batches.put_txns.Given as goal

abbrev pub invariant-loop-txn : goal.invariant-loop-txn
invariant-loop-txn l = record {
  bytes : l.into.bytes ≡ l.fn.into.bytes ++ flat_map (λ t. txn_bytes t.items) (take l.txn-index l.txns);
  room : l.fn.into.room ≤ l.into.room;
}
