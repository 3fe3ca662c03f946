-- the names of the causes, and the line that tells of one
use Rattle.std.specs.Prelude.{◌≡◌, ℕ, List, ◌++◌, codes}
use Rattle.std.specs.Fmt.{decimal}
use Rattle.defs_read.specs.declared.faults.DefsFault.{DefsFault}
use Rattle.defs_read.specs.declared.faults.DefsFault.TheVariants as defs
use Rattle.script_read.specs.declared.faults.LineFault.{LineFault}
use Rattle.script_read.specs.declared.faults.LineFault.TheVariants as line
use Rattle.script_read.specs.declared.faults.ScriptFault.{ScriptFault}
use Rattle.selector_tokens.specs.declared.faults.Kind.{Kind}
use Rattle.selector_tokens.specs.declared.faults.Kind.TheVariants as kind
use Rattle.broker_top.specs.declared.faults.InputFault.{InputFault}
use Rattle.broker_top.specs.declared.faults.InputFault.TheVariants.{Definitions, Line, NotBuilt, TooManyEntries, NoMemory}

-- the name of a cause of definitions
abbrev pub defs_cause : DefsFault → List ℕ
defs_cause defs.LineTooLong = codes "LineTooLong"
defs_cause defs.NotJson = codes "NotJson"
defs_cause defs.UnknownField = codes "UnknownField"
defs_cause defs.MissingField = codes "MissingField"
defs_cause defs.FloatNumber = codes "FloatNumber"
defs_cause defs.BadValue = codes "BadValue"
defs_cause (defs.BadSelector at kind) = codes "BadSelector"
defs_cause defs.DoubleName = codes "DoubleName"
defs_cause defs.TooManyConsumers = codes "TooManyConsumers"
defs_cause defs.NoMemory = codes "NoMemory"

-- the name of a line's cause
abbrev pub line_cause : LineFault → List ℕ
line_cause line.LineTooLong = codes "LineTooLong"
line_cause line.NotJson = codes "NotJson"
line_cause line.BadValue = codes "BadValue"
line_cause line.MissingField = codes "MissingField"
line_cause line.UnknownField = codes "UnknownField"
line_cause line.FloatNumber = codes "FloatNumber"
line_cause line.UnknownQueue = codes "UnknownQueue"
line_cause line.UnknownConsumer = codes "UnknownConsumer"
line_cause line.TooLong = codes "TooLong"
line_cause line.NoJournal = codes "NoJournal"
line_cause line.DoubleId = codes "DoubleId"
line_cause line.TooManyActors = codes "TooManyActors"
line_cause line.NoMemory = codes "NoMemory"

-- the name of a selector's fault
abbrev pub kind_name : Kind → List ℕ
kind_name kind.TooLong = codes "TooLong"
kind_name kind.BadChar = codes "BadChar"
kind_name kind.OpenString = codes "OpenString"
kind_name kind.FloatLiteral = codes "FloatLiteral"
kind_name kind.IntRange = codes "IntRange"
kind_name kind.TooDeep = codes "TooDeep"
kind_name kind.Unexpected = codes "Unexpected"

-- the number of the line at fault; want of memory has no line
abbrev pub line_at_fault : InputFault → ℕ
line_at_fault (Definitions n cause) = n
line_at_fault (Line fault) = fault.line
line_at_fault (NotBuilt n) = n
line_at_fault (TooManyEntries n) = n
line_at_fault NoMemory = 0

-- the name of the cause
abbrev pub cause_of : InputFault → List ℕ
cause_of (Definitions n cause) = defs_cause cause
cause_of (Line fault) = line_cause fault.cause
cause_of (NotBuilt n) = codes "NotBuilt"
cause_of (TooManyEntries n) = codes "TooManyEntries"
cause_of NoMemory = codes "NoMemory"

-- what is told of a cause of definitions: its name, and of a selector's fault its place and kind too
abbrev pub defs_told : DefsFault → List ℕ
defs_told (defs.BadSelector at kind) = codes "BadSelector at " ++ (decimal at ++ (codes ": " ++ kind_name kind))
defs_told cause = defs_cause cause

-- what is told of the cause of an input
abbrev pub told_of : InputFault → List ℕ
told_of (Definitions n cause) = defs_told cause
told_of fault = cause_of fault

-- the line that tells of a cause at the line of this number
abbrev pub line_text : ℕ → List ℕ → List ℕ
line_text number cause = codes "fault: line " ++ (decimal number ++ (codes ": " ++ (cause ++ codes "\n")))

-- the line that tells of the first cause of an input
abbrev pub fault_text : InputFault → List ℕ
fault_text fault = line_text (line_at_fault fault) (told_of fault)

-- the line that tells of a selector's fault at this place
abbrev pub selector_text : ℕ → Kind → List ℕ
selector_text at kind = codes "fault: selector at " ++ (decimal at ++ (codes ": " ++ (kind_name kind ++ codes "\n")))

-- a script's fault as one of the input: want of memory stays that
abbrev pub OfScript : ScriptFault → InputFault → Type 0
OfScript fault NoMemory = fault.cause ≡ line.NoMemory
OfScript fault (Line refused) = (refused ≡ fault) × (fault.cause ≡ line.NoMemory → ⊥)
OfScript fault (Definitions n cause) = ⊥
OfScript fault (NotBuilt n) = ⊥
OfScript fault (TooManyEntries n) = ⊥
