-- What a byte list stands for as a journal (docs/FORMATS.md).
use Rattle.std.specs.Prelude.{◌≡◌, ◌≢◌, ℕ, ◌+◌, ◌-◌, ◌≤◌, List, [], ◌∷◌, ◌++◌, length, take, Err}
use Rattle.std.specs.List.{flat_map, All}
use Rattle.journal_format.specs.Spelling.{Txn, batch_bytes, IsBatch}
use Rattle.journal_format.specs.Reading.{batch_at}

-- the bytes before the first gate: QPIDQJNL, version 1, and zero
abbrev pub header : List ℕ
header = 81 ∷ 80 ∷ 73 ∷ 68 ∷ 81 ∷ 74 ∷ 78 ∷ 76 ∷ 0 ∷ 0 ∷ 0 ∷ 1 ∷ 0 ∷ 0 ∷ 0 ∷ 0 ∷ []

-- an open gate, and the batch behind it
abbrev pub open_bytes : List Txn → List ℕ
open_bytes ts = 1 ∷ batch_bytes ts

-- the transactions of all batches, in order
abbrev pub all_txns : List (List Txn) → List Txn
all_txns [] = []
all_txns (b ∷ bs) = b ++ all_txns bs

-- the bytes before a gate: a header and open batches, which have these transactions
pub record Front (before : List ℕ) (commits : List Txn) : Type 0 where
  pub batches : List (List Txn)
  pub is : before ≡ header ++ flat_map open_bytes batches
  pub good : All IsBatch batches
  pub txns : commits ≡ all_txns batches

-- such a front, then a gate that isn't open, and then whatever it is
pub record IsJournal (bytes : List ℕ) (commits : List Txn) : Type 0 where
  pub before : List ℕ
  pub gate : ℕ
  pub rest : List ℕ
  pub shut : gate ≢ 1
  pub is : bytes ≡ before ++ (gate ∷ rest)
  pub front : Front before commits

-- a whole header, and the first gate
pub record IsHeaded (bytes : List ℕ) : Type 0 where
  pub header_is : take 16 bytes ≡ header
  pub gate : 17 ≤ length bytes

-- such a front, and then an open gate with no batch behind it: the place of the first fault
pub record IsDamaged (bytes : List ℕ) (at : ℕ) : Type 0 where
  pub before : List ℕ
  pub commits : List Txn
  pub rest : List ℕ
  pub is : bytes ≡ before ++ (1 ∷ rest)
  pub front : Front before commits
  pub left : ℕ
  pub fault : batch_at rest ≡ Err left
  pub place : at ≡ (length before + 1) + (length rest - left)
