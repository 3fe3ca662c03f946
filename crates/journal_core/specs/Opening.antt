-- What creating and opening a journal say.
use Rattle.std.specs.Prelude.{◌≡◌, ◌<◌, ℕ, ◌+◌, List, [], ◌∷◌, length, Option, IfSome, Result, Ok, Err}
use Rattle.journal_format.specs.Spelling.{Txn}
use Rattle.journal_format.specs.Journal.{Front, IsJournal, IsHeaded, IsDamaged, open_bytes}
use Rattle.journal_format.specs.declared.batches.Batch.{Batch}
use Rattle.journal_format.specs.declared.faults.BatchFault.{BatchFault}
use Rattle.journal_format.specs.declared.faults.BatchFault.TheVariants.{NotBatch, NoMemory}
use Rattle.journal_core.specs.declared.faults.CreateFault.{CreateFault}
use Rattle.journal_core.specs.declared.faults.CreateFault.TheVariants as create
use Rattle.journal_core.specs.declared.faults.OpenFault.{OpenFault}
use Rattle.journal_core.specs.declared.faults.OpenFault.TheVariants as open_
use Rattle.journal_core.specs.declared.journal.Trust.{Trust}
use Rattle.journal_core.specs.Stands.{Shut, Stands}

-- the disk that a call gives back, in what it made or beside the fault
abbrev pub left_by : {J D E : Type 0} → (J → D) → Result J (E × D) → D
left_by disk_of (Ok j) = disk_of j
left_by disk_of (Err e) = e.1

-- why a disk that told these bytes gets no journal; and the count of faults before and after
abbrev pub CreateFits : CreateFault → Option (List ℕ) → ℕ → ℕ → Type 0
CreateFits create.DeviceFault seen before now = now ≡ before + 1
CreateFits (create.NotEmpty len) seen before now = (now ≡ before) × (0 < len) × IfSome seen (λ b. len ≡ length b)

-- why a disk that told these bytes isn't opened as a journal; and the count of faults before and after
abbrev pub OpenFits : OpenFault → Option (List ℕ) → ℕ → ℕ → Type 0
OpenFits open_.DeviceFault seen before now = now ≡ before + 1
OpenFits open_.NotJournal seen before now = (now ≡ before) × IfSome seen (λ b. IsHeaded b → ⊥)
OpenFits (open_.Damaged at) seen before now = (now ≡ before) × IfSome seen (λ b. IsDamaged b at)
OpenFits open_.NoMemory seen before now = now ≡ before

-- why bytes have no first gate that isn't open
abbrev pub GateFits : OpenFault → List ℕ → Type 0
GateFits open_.DeviceFault bytes = ⊥
GateFits open_.NotJournal bytes = IsHeaded bytes → ⊥
GateFits (open_.Damaged at) bytes = IsDamaged bytes at
GateFits open_.NoMemory bytes = Unit {0}

-- the fault of a journal whose open gate has no batch behind it
abbrev pub fault_of : BatchFault → OpenFault
fault_of (NotBatch at) = open_.Damaged at
fault_of NoMemory = open_.NoMemory

-- why the bytes of a journal aren't given: only for the device or for want of memory
abbrev pub ReadFits : OpenFault → ℕ → ℕ → Type 0
ReadFits open_.DeviceFault before now = now ≡ before + 1
ReadFits open_.NotJournal before now = ⊥
ReadFits (open_.Damaged at) before now = ⊥
ReadFits open_.NoMemory before now = now ≡ before

-- the gate at this place is the first that isn't open
pub record IsGateOf (bytes : List ℕ) (gate : ℕ) : Type 0 where
  pub before : List ℕ
  pub commits : List Txn
  pub front : Front before commits
  pub place : length before ≡ gate
  pub shut : Shut before bytes

-- these bytes are a journal, and each image stands for its commits
abbrev pub OpenedAs : List ℕ → (List ℕ → Type 0) → ℕ → Trust → Type 0
OpenedAs bytes images gate trust = (C : List Txn) × IsJournal bytes C × Stands images gate trust C []

-- batches with the place of the gate behind each, the first behind the gate at a place
abbrev pub batches_from : ℕ → List (List Txn) → List Batch
batches_from gate [] = []
batches_from gate (b ∷ bs) = record { txns = b; next = gate + length (open_bytes b) } ∷ batches_from (gate + length (open_bytes b)) bs

-- these bytes are a journal with so many transactions, and these are its batches
pub record AreBatches (bytes : List ℕ) (commits : ℕ) (read : List Batch) : Type 0 where
  pub txns : List Txn
  pub journal : IsJournal bytes txns
  pub commits_are : commits ≡ length txns
  pub batches_are : read ≡ batches_from 16 journal.front.batches

-- the bytes of a disk, as it tells them where it does, are a journal with these batches, and each image stands for its commits
pub record OpenedBatches (images : List ℕ → Type 0) (seen : Option (List ℕ)) (gate : ℕ) (trust : Trust) (commits : ℕ) (read : List Batch) : Type 0 where
  pub bytes : List ℕ
  pub opened : OpenedAs bytes images gate trust
  pub batches : AreBatches bytes commits read
  pub told : IfSome seen (λ seen_bytes. bytes ≡ seen_bytes)
