-- the causes that a line is refused for by itself, in their order
use Rattle.std.specs.Prelude.{ℕ, List, [], ◌∷◌, ◌&&◌, Bool, true, false, not, Option, Some, None, is_some, option_map, option_and_then, unwrap_or, position, find}
use Rattle.std.specs.Str.{bytes_eq}
use Rattle.serde_json.specs.Data.{Data}
use Rattle.fields_read.specs.Forms.{first_of}
use Rattle.fields_read.specs.Fields.{value_at, text_at}
use Rattle.fields_read.specs.Faults.{cause_if, presence_fault, values_fault}
use Rattle.fields_read.specs.declared.fields.Field.TheVariants.{Do, Actor, Queue, Consumer}
use Rattle.fields_read.specs.declared.faults.FieldFault.{FieldFault}
use Rattle.fields_read.specs.declared.faults.FieldFault.TheVariants as field
use Rattle.defs_read.specs.Causes.{is_object}
use Rattle.defs_read.specs.Defined.{Defined, consumers_in}
use Rattle.script_read.specs.Tables.{verb_named, fields_of, required_of, message_fields, message_required}
use Rattle.script_read.specs.Messages.{message_of, is_too_long}
use Rattle.script_read.specs.declared.faults.LineFault.{LineFault}
use Rattle.script_read.specs.declared.faults.LineFault.TheVariants.{BadValue, MissingField, UnknownField, FloatNumber, UnknownQueue, UnknownConsumer, TooLong}
use Rattle.script_read.specs.declared.tables.Verb.{Verb}
use Rattle.script_read.specs.declared.tables.Verb.TheVariants as verb

-- a cause of a field, as one of a line
abbrev pub of_field : FieldFault → LineFault
of_field field.UnknownField = UnknownField
of_field field.MissingField = MissingField
of_field field.FloatNumber = FloatNumber
of_field field.BadValue = BadValue

-- what the line does, where it says so
abbrev pub verb_in : Data → Option Verb
verb_in d = option_and_then verb_named (text_at Do d)

-- the number of the queue that the line names, by order of definition
abbrev pub queue_named : List Defined → Data → Option ℕ
queue_named queues d = position (λ q. bytes_eq q.name (unwrap_or (text_at Queue d) [])) queues

-- the number of the consumer that the line names, where it is one of the line's actor
abbrev pub consumer_named : List Defined → Data → Option ℕ
consumer_named queues d = option_map (λ c. c.number) (find (λ c. bytes_eq c.name (unwrap_or (text_at Consumer d) []) && bytes_eq c.actor (unwrap_or (text_at Actor d) [])) (consumers_in queues))

-- whether it is put
abbrev pub is_put : Verb → Bool
is_put verb.Put = true
is_put v = false

-- the causes of a line that does this
abbrev pub verb_causes : List Defined → Data → Verb → List (Option LineFault)
verb_causes queues d v =
    option_map of_field (presence_fault (Do ∷ fields_of v) (required_of v) d)
    ∷ option_map of_field (values_fault (fields_of v) d)
    ∷ cause_if (is_some (value_at Queue d) && not (is_some (queue_named queues d))) UnknownQueue
    ∷ cause_if (is_some (value_at Consumer d) && not (is_some (consumer_named queues d))) UnknownConsumer
    ∷ cause_if (is_put v && is_too_long (message_of d)) TooLong
    ∷ []

-- the first cause of a line that does this, or that does nothing which a line may do
abbrev pub verb_fault : List Defined → Data → Option Verb → Option LineFault
verb_fault queues d None = Some BadValue
verb_fault queues d (Some v) = first_of (verb_causes queues d v)

-- the first cause of a line that is JSON of this value
abbrev pub line_fault : List Defined → Data → Option LineFault
line_fault queues d = first_of (
    cause_if (not (is_object d)) BadValue
    ∷ cause_if (not (is_some (value_at Do d))) MissingField
    ∷ verb_fault queues d (verb_in d)
    ∷ [])

-- the first cause of a message's line that is JSON of this value
abbrev pub message_fault : Data → Option LineFault
message_fault d = first_of (
    cause_if (not (is_object d)) BadValue
    ∷ option_map of_field (presence_fault message_fields message_required d)
    ∷ option_map of_field (values_fault message_fields d)
    ∷ cause_if (is_too_long (message_of d)) TooLong
    ∷ [])
