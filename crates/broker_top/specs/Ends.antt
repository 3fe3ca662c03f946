-- which status a call ends with, and what it writes
use Rattle.std.specs.Prelude.{◌≡◌, ℕ, ◌+◌, ◌≤◌, ◌⊎◌, Option, Some, None, List, ◌++◌, length, take, codes, Ok}
use Rattle.account_core.specs.Runs.{Ran}
use Rattle.command_status.specs.Told.{Tells}
use Rattle.command_status.specs.declared.status.Status.{Status}
use Rattle.command_status.specs.declared.status.Status.TheVariants.{Done, InputRefused, WordsRefused, ReadFault, WriteFault, DeviceFault, NoMemory, JournalRefused}
use Rattle.broker_top.specs.declared.faults.InputFault.{InputFault}
use Rattle.broker_top.specs.declared.faults.InputFault.TheVariants as input
use Rattle.broker_top.specs.Faults.{fault_text}
use Rattle.broker_top.specs.Input.{IsTooLarge, IsWhole}
use Rattle.broker_top.specs.Job.{IsRefusedFor, IsRunnable, Script, input_says}
use Rattle.broker_top.specs.Select.{IsInputRefused, IsSelected, IsSelectorRefused}
use Rattle.broker_top.specs.Generated.{IsSummed, IsUnsummed}
use Rattle.command_line.specs.Tasks.{Task, gen, run, select}
use Rattle.broker_top.specs.World.{World, Unserved}

-- Runs

-- The input was read to its end, and says a script that is run. All its phases ran, from empty queues on, and the text is
-- theirs.
pub record IsRun (text : List ℕ) (w w' : World) : Type 0 where
  pub input : List ℕ
  pub whole : IsWhole input w.left w'.left
  pub script : Script
  pub says : input_says input ≡ Ok script
  pub runs : IsRunnable script
  pub ran : Ran script.defs script.phases w.seats w'.seats text

-- The input was read to its end, and says a script that is run. Its first phases ran; then this fault came, and the text is
-- theirs with the fault behind it.
pub record IsCut (fault text : List ℕ) (w w' : World) : Type 0 where
  pub input : List ℕ
  pub whole : IsWhole input w.left w'.left
  pub script : Script
  pub says : input_says input ≡ Ok script
  pub runs : IsRunnable script
  pub some : ℕ
  pub front : List ℕ
  pub ran : Ran script.defs (take some script.phases) w.seats w'.seats front
  pub told : text ≡ front ++ fault

-- The input was read to its end, and is refused for this cause, which is the first.
pub record IsLineRefused (text : List ℕ) (left left' : Option (List ℕ)) : Type 0 where
  pub input : List ℕ
  pub whole : IsWhole input left left'
  pub fault : InputFault
  pub refused : IsRefusedFor (input_says input) fault
  pub told : text ≡ fault_text fault

-- Tasks

-- the task was done, by what was read, and this is its text
abbrev pub IsDone : Task → List ℕ → World → World → Type 0
IsDone run text w w' = IsRun text w w'
IsDone (select selector) text w w' = IsSelected selector text w.left w'.left × Unserved w w'
IsDone (gen number count) text w w' = IsSummed number count text w.seats w'.seats

-- the task's input is refused, by what was read, and this text tells of it
abbrev pub IsRefused : Task → List ℕ → Option (List ℕ) → Option (List ℕ) → Type 0
IsRefused run text left left' = IsTooLarge text left left' ⊎ IsLineRefused text left left'
IsRefused (select selector) text left left' = IsSelectorRefused selector text left left' ⊎ IsInputRefused selector text left left'
IsRefused (gen number count) text left left' = ⊥

-- want of memory, before anything ran
abbrev pub IsShort : List ℕ → World → World → Type 0
IsShort text w w' = (text ≡ codes "fault: memory\n") × Unserved w w'

-- want of memory: in a run it may come after some phases, but in none that began
abbrev pub WantsMemory : Task → List ℕ → World → World → Type 0
WantsMemory run text w w' = IsShort text w w' ⊎ IsCut (codes "fault: memory\n") text w w'
WantsMemory (select selector) text w w' = IsShort text w w'
WantsMemory (gen number count) text w w' = IsShort text w w' ⊎ IsUnsummed number count text w.seats w'.seats

-- when a status comes of a task, and the text that goes with it
abbrev pub Comes : Task → Status → List ℕ → World → World → Type 0
Comes task Done text w w' = IsDone task text w w'
Comes task InputRefused text w w' = IsRefused task text w.left w'.left × Unserved w w'
Comes task WordsRefused text w w' = ⊥
Comes task ReadFault text w w' = (text ≡ codes "fault: read\n") × Unserved w w'
Comes task NoMemory text w w' = WantsMemory task text w w'
Comes task WriteFault text w w' = ⊥
Comes task DeviceFault text w w' = ⊥
Comes task JournalRefused text w w' = ⊥

-- the source's count of faults rose, and by one, exactly where the status tells of it
abbrev pub ReadFaults : Status → ℕ → ℕ → Type 0
ReadFaults ReadFault faults faults' = faults' ≡ faults + 1
ReadFaults Done faults faults' = faults' ≡ faults
ReadFaults InputRefused faults faults' = faults' ≡ faults
ReadFaults WordsRefused faults faults' = faults' ≡ faults
ReadFaults NoMemory faults faults' = faults' ≡ faults
ReadFaults WriteFault faults faults' = faults' ≡ faults
ReadFaults DeviceFault faults faults' = faults' ≡ faults
ReadFaults JournalRefused faults faults' = faults' ≡ faults

-- this text of a refusal was told, or want of memory
abbrev pub TellsRefusal : List ℕ → Status → Option (List ℕ) → Option (List ℕ) → ℕ → ℕ → Type 0
TellsRefusal text result written written' faults faults' = Tells result InputRefused text written written' faults faults' ⊎ Tells result NoMemory (codes "fault: memory\n") written written' faults faults'

-- The refusal for this fault was told, where it is no want of memory; or want of memory was told.
abbrev pub Refuses : InputFault → Status → Option (List ℕ) → Option (List ℕ) → ℕ → ℕ → Type 0
Refuses fault result written written' faults faults' =
    ((fault ≡ input.NoMemory → ⊥) × Tells result InputRefused (fault_text fault) written written' faults faults') ⊎ Tells result NoMemory (codes "fault: memory\n") written written' faults faults'

-- a task that has no input leaves the source as it was
abbrev pub LeavesSource : Task → World → World → Type 0
LeavesSource run w w' = Unit {0}
LeavesSource (select selector) w w' = Unit {0}
LeavesSource (gen number count) w w' = (w'.left ≡ w.left) × (w'.read_faults ≡ w.read_faults)

-- how a task ends that was asked for
pub record TaskEnds (task : Task) (result : Status) (w w' : World) : Type 0 where
  pub status : Status
  pub text : List ℕ
  pub comes : Comes task status text w w'
  pub source : ReadFaults status w.read_faults w'.read_faults
  pub unread : LeavesSource task w w'
  pub tells : Tells result status text w.written w'.written w.write_faults w'.write_faults

-- where no task was asked for, the words are refused: nothing was read, and no target was served
pub record WordsEnd (result : Status) (w w' : World) : Type 0 where
  pub unread : w'.left ≡ w.left
  pub source : w'.read_faults ≡ w.read_faults
  pub unserved : Unserved w w'
  pub tells : Tells result WordsRefused (codes "fault: words\n") w.written w'.written w.write_faults w'.write_faults

-- how a call ends, by the task that it was asked for
abbrev pub Ends : Option Task → Status → World → World → Type 0
Ends None result w w' = WordsEnd result w w'
Ends (Some task) result w w' = TaskEnds task result w w'
