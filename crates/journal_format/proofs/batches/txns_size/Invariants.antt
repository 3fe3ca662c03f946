use Rattle.std.proofs.Common.{◌≡◌, ◌*◌, ◌≤◌, length, take}
use Rattle.std.specs.Prelude.{sum_by}
use Rattle.std.specs.List.{All}
use Rattle.journal_format.specs.Spelling.{txn_bytes}
use Rattle.journal_format.specs.Filled.{IsLimited}
use Rattle.journal_format.proofs.batches.txns_size.Given as goal

abbrev pub invariant-loop-txn : goal.invariant-loop-txn
invariant-loop-txn l = record {
  size : l.size ≡ sum_by (λ t. length (txn_bytes t.items)) (take l.txn-index l.txns);
  most : l.size ≤ 67108864 * l.txn-index;
  limited : All (λ t. IsLimited t.items) (take l.txn-index l.txns);
}
