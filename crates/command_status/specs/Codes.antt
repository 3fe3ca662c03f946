-- the codes that the process ends with
use Rattle.std.specs.Prelude.{ℕ}
use Rattle.command_status.specs.declared.status.Status.{Status}
use Rattle.command_status.specs.declared.status.Status.TheVariants.{Done, InputRefused, WordsRefused, ReadFault, WriteFault, DeviceFault, NoMemory, JournalRefused}

abbrev pub status_code : Status → ℕ
status_code Done = 0
status_code InputRefused = 1
status_code WordsRefused = 2
status_code ReadFault = 3
status_code WriteFault = 4
status_code DeviceFault = 5
status_code NoMemory = 6
status_code JournalRefused = 7
