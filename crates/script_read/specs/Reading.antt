-- reading one line by itself
use Rattle.std.specs.Prelude.{◌≡◌, ℕ, List, length, nat_lt, if◌then◌else◌, Option, Some, None, Result, Ok, Err}
use Rattle.serde_json.specs.Data.{Data}
use Rattle.fields_read.specs.Json.{json_of}
use Rattle.defs_read.specs.Causes.{longest_line}
use Rattle.defs_read.specs.Defined.{Defined}
use Rattle.message_core.specs.Spelling.{Content}
use Rattle.script_read.specs.Causes.{line_fault, message_fault}
use Rattle.script_read.specs.Messages.{message_of}
use Rattle.script_read.specs.Values.{line_in}
use Rattle.script_read.specs.declared.faults.LineFault.{LineFault}
use Rattle.script_read.specs.declared.faults.LineFault.TheVariants.{LineTooLong, NotJson, BadValue, MissingField, UnknownField, FloatNumber, UnknownQueue, UnknownConsumer, TooLong, NoJournal, DoubleId, TooManyActors, NoMemory}
use Rattle.script_read.specs.declared.lines.Line.{Line}

-- what is said where there is no cause, or the cause
abbrev pub unless : {A : Type 0} → Option LineFault → A → Result A LineFault
unless None said = Ok said
unless (Some cause) said = Err cause

-- what a JSON value says, where these are its causes
abbrev pub json_says : {A : Type 0} → (Data → Option LineFault) → (Data → A) → Option Data → Result A LineFault
json_says fault value None = Err NotJson
json_says fault value (Some d) = unless (fault d) (value d)

-- what a text says: LineTooLong and NotJson come before the causes of its value
abbrev pub text_says : {A : Type 0} → (Data → Option LineFault) → (Data → A) → List ℕ → Result A LineFault
text_says fault value text = if nat_lt longest_line (length text) then Err LineTooLong else json_says fault value (json_of text)

-- the line of number n that a text says, or its first cause
abbrev pub line_says : List Defined → ℕ → List ℕ → Result Line LineFault
line_says queues n text = text_says (line_fault queues) (line_in queues n) text

-- the message that a text says, or its first cause
abbrev pub message_says : List ℕ → Result Content LineFault
message_says text = text_says message_fault message_of text

-- The answer is what was said. Want of memory may come in place of any.
abbrev pub Gives : {A : Type 0} → Result A LineFault → Result A LineFault → Type 0
Gives (Ok x) said = said ≡ Ok x
Gives (Err NoMemory) said = Unit {0}
Gives (Err LineTooLong) said = said ≡ Err LineTooLong
Gives (Err NotJson) said = said ≡ Err NotJson
Gives (Err BadValue) said = said ≡ Err BadValue
Gives (Err MissingField) said = said ≡ Err MissingField
Gives (Err UnknownField) said = said ≡ Err UnknownField
Gives (Err FloatNumber) said = said ≡ Err FloatNumber
Gives (Err UnknownQueue) said = said ≡ Err UnknownQueue
Gives (Err UnknownConsumer) said = said ≡ Err UnknownConsumer
Gives (Err TooLong) said = said ≡ Err TooLong
Gives (Err NoJournal) said = said ≡ Err NoJournal
Gives (Err DoubleId) said = said ≡ Err DoubleId
Gives (Err TooManyActors) said = said ≡ Err TooManyActors
