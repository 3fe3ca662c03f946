-- how a call of the program ends, by all that its words may ask for
use Rattle.std.specs.Prelude.{◌≡◌, Option, Some, None}
use Rattle.command_status.specs.declared.status.Status.{Status}
use Rattle.journal_commands.specs.Disks.{Medium, IsSame}
use Rattle.broker_top.specs.Ends.{Ends}
use Rattle.journal_commands.specs.JournalEnds.{JournalEnds}
use Rattle.command_line.specs.JournalTasks.{JournalTask}
use Rattle.command_line.specs.Tasks.{Task}
use Rattle.broker_top.specs.World.{World, Unserved}

-- nothing was read, and no target was served
pub record IsAside (w w' : World) : Type 0 where
  pub unread : w'.left ≡ w.left
  pub source : w'.read_faults ≡ w.read_faults
  pub unserved : Unserved w w'

-- A command of journals leaves the source and the targets aside. Every other one leaves the disk as it was, and so do
-- words that ask for nothing.
abbrev pub CommandEnds : Option JournalTask → Option Task → Status → World → World → Medium → Medium → Type 0
CommandEnds (Some task) other result w w' d d' =
    IsAside w w' × JournalEnds (Some task) result d d' w.written w'.written w.write_faults w'.write_faults
CommandEnds None task result w w' d d' = IsSame d d' × Ends task result w w'
