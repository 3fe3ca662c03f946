-- reading one line, part by part
use Rattle.std.specs.Prelude.{ℕ, ◌&&◌, Bool, List, [], ◌∷◌, length, not, nat_lt, if◌then◌else◌, Option, is_some, option_map, unwrap_or, Result, Err}
use Rattle.std.specs.Option.{ok_or}
use Rattle.serde_json.specs.Data.{Data}
use Rattle.fields_read.specs.Faults.{cause_if, presence_fault, values_fault}
use Rattle.fields_read.specs.Fields.{value_at, number_at, text_at}
use Rattle.fields_read.specs.Forms.{first_of}
use Rattle.fields_read.specs.Json.{json_of}
use Rattle.fields_read.specs.declared.fields.Field.{Field}
use Rattle.fields_read.specs.declared.fields.Field.TheVariants.{Do, Queue, Consumer, Priority}
use Rattle.defs_read.specs.Causes.{is_object, longest_line}
use Rattle.defs_read.specs.Defined.{Defined}
use Rattle.script_read.specs.Causes.{of_field, verb_in, queue_named, consumer_named, is_put}
use Rattle.script_read.specs.Messages.{message_of, is_too_long}
use Rattle.script_read.specs.Reading.{unless}
use Rattle.script_read.specs.Tables.{fields_of, required_of, message_fields, message_required}
use Rattle.script_read.specs.declared.faults.LineFault.{LineFault}
use Rattle.script_read.specs.declared.faults.LineFault.TheVariants.{LineTooLong, NotJson, BadValue, MissingField, UnknownQueue, UnknownConsumer, TooLong, NoMemory}
use Rattle.script_read.specs.declared.tables.Verb.{Verb}
use Rattle.message_core.specs.Spelling.{Content}
use Rattle.message_core.specs.declared.faults.MessageFault.{MessageFault}
use Rattle.message_core.specs.declared.faults.MessageFault.TheVariants as fault

-- the value of a text
abbrev pub value_said : List ℕ → Result Data LineFault
value_said text = if nat_lt longest_line (length text) then Err LineTooLong else ok_or (json_of text) NotJson

-- what the value says that its line does
abbrev pub verb_said : Data → Result Verb LineFault
verb_said d = if not (is_object d) then Err BadValue else (if not (is_some (value_at Do d)) then Err MissingField else ok_or (verb_in d) BadValue)

-- the first cause of a value against these known fields, those that must stand, and those whose values are read
unfoldable pub fields_fault : List Field → List Field → List Field → Data → Option LineFault
fields_fault known required valued d = first_of (option_map of_field (presence_fault known required d) ∷ option_map of_field (values_fault valued d) ∷ [])

-- whether the line names a queue that is not defined
unfoldable pub names_no_queue : List Defined → Data → Bool
names_no_queue queues d = is_some (value_at Queue d) && not (is_some (queue_named queues d))

-- whether the line names a consumer that its actor does not have
unfoldable pub names_no_consumer : List Defined → Data → Bool
names_no_consumer queues d = is_some (value_at Consumer d) && not (is_some (consumer_named queues d))

-- the first cause of a line that does this, but for TooLong
abbrev pub early_fault : List Defined → Data → Verb → Option LineFault
early_fault queues d v = first_of (
    fields_fault (Do ∷ fields_of v) (required_of v) (fields_of v) d
    ∷ cause_if (names_no_queue queues d) UnknownQueue
    ∷ cause_if (names_no_consumer queues d) UnknownConsumer
    ∷ [])

-- the first cause of a message's line, but for TooLong
abbrev pub early_message_fault : Data → Option LineFault
early_message_fault d = first_of (cause_if (not (is_object d)) BadValue ∷ fields_fault message_fields message_required message_fields d ∷ [])

-- the message of a line without an earlier cause
abbrev pub content_said : Content → Result Content LineFault
content_said m = unless (cause_if (is_too_long m) TooLong) m

-- a refusal of a message's parts, as a cause of its line
abbrev pub of_message : MessageFault → LineFault
of_message fault.BadPriority = BadValue
of_message fault.DoubleHeader = BadValue
of_message fault.TooLong = TooLong
of_message fault.NoMemory = NoMemory

-- the priority of the message that an object says
abbrev pub priority_in : Data → ℕ
priority_in d = unwrap_or (number_at Priority d) 4

-- the text of a field; no bytes where it has none
abbrev pub text_or_none : Field → Data → List ℕ
text_or_none f d = unwrap_or (text_at f d) []

-- the last cause that a line may have which does this
abbrev pub late_fault : Data → Verb → Option LineFault
late_fault d v = cause_if (is_put v && is_too_long (message_of d)) TooLong
