-- what is told where the input was not read whole
use Rattle.std.specs.Prelude.{ℕ, List, codes}
use Rattle.broker_top.specs.Input.{too_large_text}
use Rattle.broker_top.specs.declared.input.Unread.{Unread}
use Rattle.broker_top.specs.declared.input.Unread.TheVariants as unread
use Rattle.command_status.specs.declared.status.Status.{Status}
use Rattle.command_status.specs.declared.status.Status.TheVariants.{InputRefused, ReadFault, NoMemory}

-- the status that tells why
abbrev pub unread_status : Unread → Status
unread_status unread.TooLarge = InputRefused
unread_status unread.Fault = ReadFault
unread_status unread.NoMemory = NoMemory

-- the text that tells why
abbrev pub unread_text : Unread → List ℕ
unread_text unread.TooLarge = too_large_text
unread_text unread.Fault = codes "fault: read\n"
unread_text unread.NoMemory = codes "fault: memory\n"
