-- why parts make no message
use Rattle.std.specs.Prelude.{◌<◌, ◌≤◌, ◌⊎◌, length}
use Rattle.std.specs.List.{IsDistinct}
use Rattle.std.specs.Str.{bytes_eq}
use Rattle.byte_lists.specs.declared.limits.TheConstants.{MOST_BYTES}
use Rattle.message_core.specs.declared.faults.MessageFault.{MessageFault}
use Rattle.message_core.specs.declared.faults.MessageFault.TheVariants.{BadPriority, DoubleHeader, TooLong, NoMemory}
use Rattle.message_core.specs.declared.limits.TheConstants.{LONGEST_NAME, MOST_HEADERS, TOP_PRIORITY}
use Rattle.message_core.specs.Spelling.{Content, content, names}
use Rattle.message_core.specs.Names.{HasDouble}
use Rattle.std.specs.List.{Any}

-- a name, the number of headers or the whole encoding passes its limit
abbrev pub IsTooLong : Content → Type 0
IsTooLong m =
    Any (λ h. LONGEST_NAME < length h.name) m.headers
    ⊎ ((MOST_HEADERS < length m.headers) ⊎ (MOST_BYTES < length (content m)))

-- the first of the refusals that fits; want of memory may come in place of any
abbrev pub IsRefused : MessageFault → Content → Type 0
IsRefused BadPriority m = TOP_PRIORITY < m.priority
IsRefused DoubleHeader m = (m.priority ≤ TOP_PRIORITY) × HasDouble (names m.headers)
IsRefused TooLong m = (m.priority ≤ TOP_PRIORITY) × IsDistinct bytes_eq (names m.headers) × IsTooLong m
IsRefused NoMemory m = Unit {0}
