-- what read_batch and write_batch say
use Rattle.std.specs.Prelude.{◌≡◌, ℕ, ◌+◌, ◌-◌, ◌<◌, List, ◌++◌, length, drop, map, Result, Ok, Err}
use Rattle.message_core.specs.Reading.{Read}
use Rattle.journal_format.specs.declared.batches.Batch.{Batch}
use Rattle.journal_format.specs.declared.faults.BatchFault.{BatchFault}
use Rattle.journal_format.specs.declared.faults.BatchFault.TheVariants.{NotBatch, NoMemory}
use Rattle.journal_format.specs.Filled.{Filled}
use Rattle.journal_format.specs.Spelling.{Txn, batch_bytes, IsBatch}

-- the bytes from a place on are those of a batch, and then the next gate stands at `next`
pub record IsBatchAt (bytes : List ℕ) (at : ℕ) (txns : List Txn) (next : ℕ) : Type 0 where
  pub batch : IsBatch txns
  pub is : drop at bytes ≡ batch_bytes txns ++ drop next bytes
  pub next_is : next ≡ at + length (batch_bytes txns)
  pub gate : next < length bytes

-- what read_batch answers is what reading gives; a fault is told by its place in all bytes
abbrev pub Reads : Result Batch BatchFault → List ℕ → ℕ → Read (List Txn) → Type 0
Reads (Ok b) bytes at read = (read ≡ Ok (b.txns, drop b.next bytes))
Reads (Err (NotBatch place)) bytes at read = (left : ℕ) × (read ≡ Err left) × (place ≡ at + (length (drop at bytes) - left))
Reads (Err NoMemory) bytes at read = Unit {0}

-- read_batch answers this batch, unless memory ran out
abbrev pub IsReadAs : Result Batch BatchFault → List Txn → ℕ → Type 0
IsReadAs (Ok b) ts next = (b.txns ≡ ts) × (b.next ≡ next)
IsReadAs (Err (NotBatch place)) ts next = ⊥
IsReadAs (Err NoMemory) ts next = Unit {0}

-- the items of transactions, in order
abbrev pub lists_of : List Filled → List Txn
lists_of ts = map (λ t. t.items) ts
