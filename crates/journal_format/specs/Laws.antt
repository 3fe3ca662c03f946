-- the statements of the laws, each proved as the contract of a function in src/laws.rt
use Rattle.std.specs.Prelude.{◌≡◌, ◌≢◌, ℕ, ◌+◌, ◌<◌, List, [], ◌∷◌, ◌++◌, length, Ok, sum_by}
use Rattle.journal_format.specs.Spelling.{Txn, txn_bytes, batch_bytes, IsBatch}
use Rattle.journal_format.specs.Reading.{batch_at}
use Rattle.journal_format.specs.Journal.{header, open_bytes, Front, IsJournal, IsDamaged}

-- a batch behind the front is one more
abbrev pub FrontGrows : Type 0
FrontGrows = (before : List ℕ) (C B : List Txn) → Front before C → IsBatch B → Front (before ++ open_bytes B) (C ++ B)

-- a header alone is a front
abbrev pub FirstFront : Type 0
FirstFront = Front header []

-- a byte list stands for at most one list of commits
abbrev pub OneList : Type 0
OneList = (bytes : List ℕ) (C D : List Txn) → IsJournal bytes C → IsJournal bytes D → C ≡ D

-- what follows a closed gate has no meaning: whatever stands there, the commits are those before the gate, and no others
abbrev pub NothingBehind : Type 0
NothingBehind = (before rest : List ℕ) (gate : ℕ) (C D : List Txn) → gate ≢ 1 → Front before C → IsJournal (before ++ (gate ∷ rest)) D → D ≡ C

-- what is damaged is no journal
abbrev pub NoJournal : Type 0
NoJournal = (bytes : List ℕ) (C : List Txn) (at : ℕ) → IsDamaged bytes at → IsJournal bytes C → ⊥

-- what is damaged has one first fault
abbrev pub OneFault : Type 0
OneFault = (bytes : List ℕ) (at to : ℕ) → IsDamaged bytes at → IsDamaged bytes to → to ≡ at

-- the bytes of a batch with more bytes behind them are read as that batch
abbrev pub RoundTrip : Type 0
RoundTrip = (ts : List Txn) (rest : List ℕ) → IsBatch ts → 0 < length rest → batch_at (batch_bytes ts ++ rest) ≡ Ok (ts, rest)

-- how many bytes a batch has
abbrev pub SizeOf : Type 0
SizeOf = (ts : List Txn) → length (batch_bytes ts) ≡ 12 + sum_by (λ t. length (txn_bytes t)) ts
