-- how `init` and `recover` end, and what they leave of the disk
use Rattle.std.specs.Prelude.{◌≡◌, ◌⊎◌, ◌<◌, ℕ, ◌+◌, List, [], ◌++◌, length, codes, Option, Some, None, IfSome, IsTrue, is_some}
use Rattle.std.specs.Fmt.{decimal}
use Rattle.journal_core.specs.declared.faults.OpenFault.{OpenFault}
use Rattle.journal_core.specs.declared.faults.OpenFault.TheVariants as open_
use Rattle.journal_format.specs.Journal.{IsJournal, IsHeaded, IsDamaged}
use Rattle.command_status.specs.declared.status.Status.{Status}
use Rattle.command_status.specs.declared.status.Status.TheVariants.{Done, InputRefused, WordsRefused, ReadFault, WriteFault, DeviceFault, NoMemory, JournalRefused}
use Rattle.command_status.specs.Told.{Tells}
use Rattle.journal_commands.specs.Disks.{Medium, GoesOn, IsSame, IsSpared, IsLookedAt}
use Rattle.command_line.specs.JournalTasks.{JournalTask, init, recover}
use Rattle.journal_commands.specs.Recovered.{IsRecovery}

-- the line that tells where a journal is damaged; 0 where there is none
abbrev pub journal_text : ℕ → List ℕ
journal_text at = codes "fault: journal at " ++ (decimal at ++ codes "\n")

-- the line that tells how long a disk is that isn't empty
abbrev pub not_empty_text : ℕ → List ℕ
not_empty_text len = codes "fault: not empty " ++ (decimal len ++ codes "\n")

-- the disk was empty, and each of its images is now a journal without commits
pub record IsMade (d d' : Medium) : Type 0 where
  pub empty : IfSome d.seen (λ b. b ≡ [])
  pub journal : (c : List ℕ) → d'.images c → IsJournal c []

-- the disk had so many bytes, and more than none; where it tells them it was spared
pub record IsNotEmpty (len : ℕ) (d d' : Medium) : Type 0 where
  pub some : 0 < len
  pub long : IfSome d.seen (λ b. len ≡ length b)
  pub spared : IsTrue (is_some d.seen) → IsSpared d d'

-- when a status comes of making a journal, and the text that goes with it
abbrev pub InitComes : Status → List ℕ → Medium → Medium → Type 0
InitComes Done text d d' = (text ≡ codes "created\n") × IsMade d d' × (d'.faults ≡ d.faults)
InitComes DeviceFault text d d' = (text ≡ codes "fault: disk\n") × (d'.faults ≡ d.faults + 1)
InitComes JournalRefused text d d' =
    ((len : ℕ) × IsNotEmpty len d d' × (text ≡ not_empty_text len)) × (d'.faults ≡ d.faults)
InitComes NoMemory text d d' =
    ((len : ℕ) × IsNotEmpty len d d' × (text ≡ codes "fault: memory\n")) × (d'.faults ≡ d.faults)
InitComes InputRefused text d d' = ⊥
InitComes WordsRefused text d d' = ⊥
InitComes ReadFault text d d' = ⊥
InitComes WriteFault text d d' = ⊥

-- The bytes that a read gives are no journal, or one that is damaged at a place, and the text tells of it.
abbrev pub IsUnread : List ℕ → Option (List ℕ) → Type 0
IsUnread text seen =
    ((text ≡ journal_text 0) × IfSome seen (λ b. IsHeaded b → ⊥))
    ⊎ ((at : ℕ) × (text ≡ journal_text at) × IfSome seen (λ b. IsDamaged b at))

-- when a status comes of telling what a journal holds, and the text that goes with it
abbrev pub RecoverComes : Status → List ℕ → Medium → Medium → Type 0
RecoverComes Done text d d' = IsRecovery text d'.seen × (d'.faults ≡ d.faults)
RecoverComes DeviceFault text d d' = (text ≡ codes "fault: disk\n") × (d'.faults ≡ d.faults + 1)
RecoverComes JournalRefused text d d' = IsUnread text d'.seen × (d'.faults ≡ d.faults)
RecoverComes NoMemory text d d' = (text ≡ codes "fault: memory\n") × (d'.faults ≡ d.faults)
RecoverComes InputRefused text d d' = ⊥
RecoverComes WordsRefused text d d' = ⊥
RecoverComes ReadFault text d d' = ⊥
RecoverComes WriteFault text d d' = ⊥

-- how the making of a journal ends
pub record InitEnds (result : Status) (d d' : Medium) (written written' : Option (List ℕ)) (faults faults' : ℕ) : Type 0 where
  pub status : Status
  pub text : List ℕ
  pub comes : InitComes status text d d'
  pub goes_on : GoesOn d d'
  pub tells : Tells result status text written written' faults faults'

-- how telling what a journal holds ends
pub record RecoverEnds (result : Status) (d d' : Medium) (written written' : Option (List ℕ)) (faults faults' : ℕ) : Type 0 where
  pub status : Status
  pub text : List ℕ
  pub comes : RecoverComes status text d d'
  pub looked : IsLookedAt d d'
  pub tells : Tells result status text written written' faults faults'

-- want of memory before the disk was touched
abbrev pub IsShort : Status → Medium → Medium → Option (List ℕ) → Option (List ℕ) → ℕ → ℕ → Type 0
IsShort result d d' written written' faults faults' =
    IsSame d d' × Tells result NoMemory (codes "fault: memory\n") written written' faults faults'

-- How a call ends, by the task that it was asked for, unless memory ran out while the words were read. Where it was none
-- the words are refused, and the disk is as it was.
abbrev pub JournalEnds : Option JournalTask → Status → Medium → Medium → Option (List ℕ) → Option (List ℕ) → ℕ → ℕ → Type 0
JournalEnds None result d d' written written' faults faults' =
    IsSame d d' × Tells result WordsRefused (codes "fault: words\n") written written' faults faults'
JournalEnds (Some (init path)) result d d' written written' faults faults' =
    InitEnds result d d' written written' faults faults' ⊎ IsShort result d d' written written' faults faults'
JournalEnds (Some (recover path)) result d d' written written' faults faults' =
    RecoverEnds result d d' written written' faults faults' ⊎ IsShort result d d' written written' faults faults'

-- this text of a refusal was told, or want of memory
abbrev pub TellsOrWants : List ℕ → Status → Option (List ℕ) → Option (List ℕ) → ℕ → ℕ → Type 0
TellsOrWants text result written written' faults faults' =
    Tells result JournalRefused text written written' faults faults'
    ⊎ Tells result NoMemory (codes "fault: memory\n") written written' faults faults'

-- it was told why a journal isn't opened
abbrev pub TellsOfOpening : OpenFault → Status → Option (List ℕ) → Option (List ℕ) → ℕ → ℕ → Type 0
TellsOfOpening open_.DeviceFault result written written' faults faults' =
    Tells result DeviceFault (codes "fault: disk\n") written written' faults faults'
TellsOfOpening open_.NotJournal result written written' faults faults' =
    TellsOrWants (journal_text 0) result written written' faults faults'
TellsOfOpening (open_.Damaged at) result written written' faults faults' =
    TellsOrWants (journal_text at) result written written' faults faults'
TellsOfOpening open_.NoMemory result written written' faults faults' =
    Tells result NoMemory (codes "fault: memory\n") written written' faults faults'
