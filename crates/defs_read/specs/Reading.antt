-- reading definitions
use Rattle.std.specs.Prelude.{◌≡◌, ℕ, List, Some, None}
use Rattle.defs_read.specs.Causes.{fault_of}
use Rattle.defs_read.specs.Defined.{queues_in}
use Rattle.defs_read.specs.Values.{defs_of}
use Rattle.defs_read.specs.declared.defs.Defs.{Defs}
use Rattle.defs_read.specs.declared.faults.DefsFault.{DefsFault}
use Rattle.defs_read.specs.declared.faults.DefsFault.TheVariants.{LineTooLong, NotJson, UnknownField, MissingField, FloatNumber, BadValue, BadSelector, DoubleName, TooManyConsumers, NoMemory}

-- The line has this first cause. Want of memory may come in place of any.
abbrev pub IsRefused : DefsFault → List ℕ → Type 0
IsRefused NoMemory line = Unit {0}
IsRefused LineTooLong line = fault_of line ≡ Some LineTooLong
IsRefused NotJson line = fault_of line ≡ Some NotJson
IsRefused UnknownField line = fault_of line ≡ Some UnknownField
IsRefused MissingField line = fault_of line ≡ Some MissingField
IsRefused FloatNumber line = fault_of line ≡ Some FloatNumber
IsRefused BadValue line = fault_of line ≡ Some BadValue
IsRefused (BadSelector at kind) line = fault_of line ≡ Some (BadSelector at kind)
IsRefused DoubleName line = fault_of line ≡ Some DoubleName
IsRefused TooManyConsumers line = fault_of line ≡ Some TooManyConsumers

-- The line has no cause, and defines these queues.
pub record Defines (line : List ℕ) (defs : Defs) : Type 0 where
  pub allowed : fault_of line ≡ None
  pub queues : queues_in defs ≡ defs_of line
