-- The commits of a journal, as a function of its bytes.
use Rattle.std.specs.Prelude.{ℕ, zero, suc, List, [], ◌∷◌, ◌++◌, length, drop, Ok, Err, Option, Some, None}
use Rattle.message_core.specs.Reading.{Read}
use Rattle.journal_format.specs.Spelling.{Txn}
use Rattle.journal_format.specs.Reading.{batch_at}

-- the transactions of a batch that was read, and those behind it
abbrev pub and_behind : (List ℕ → List Txn) → Read (List Txn) → List Txn
and_behind behind (Ok x) = x.0 ++ behind x.1
and_behind behind (Err left) = []

-- the transactions behind open gates, from a gate on, of fewer than n batches
abbrev pub txns_from : ℕ → List ℕ → List Txn
txns_from zero bytes = []
txns_from (suc n) [] = []
txns_from (suc n) (zero ∷ rest) = []
txns_from (suc n) (suc zero ∷ rest) = and_behind (txns_from n) (batch_at rest)
txns_from (suc n) (suc (suc gate) ∷ rest) = []

-- the commits of a journal with these bytes: the header has 16, and there are fewer batches than bytes
abbrev pub commits_of : List ℕ → List Txn
commits_of bytes = txns_from (length bytes) (drop 16 bytes)

-- those of a disk that may not tell its bytes
abbrev pub commits_in : Option (List ℕ) → List Txn
commits_in None = []
commits_in (Some bytes) = commits_of bytes
