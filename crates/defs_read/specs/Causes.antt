-- the causes that definitions are refused for, in their order
use Rattle.std.specs.Prelude.{ℕ, List, [], ◌∷◌, ◌++◌, length, Bool, not, nat_le, nat_lt, Option, Some, None, is_some, option_map, option_and_then, unwrap_or}
use Rattle.std.specs.List.{list_any}
use Rattle.std.specs.Str.{bytes_eq}
use Rattle.serde_json.specs.Data.{Data, Items, no_items, item}
use Rattle.serde_json.specs.Find.{as_object}
use Rattle.fields_read.specs.Json.{json_of}
use Rattle.fields_read.specs.Forms.{first_of}
use Rattle.fields_read.specs.Fields.{text_at, items_at}
use Rattle.fields_read.specs.Faults.{cause_if, presence_fault, values_fault, field_fault}
use Rattle.fields_read.specs.declared.fields.Field.TheVariants.{Queues, Name, Kind, Consumers, Selector}
use Rattle.fields_read.specs.declared.faults.FieldFault.{FieldFault}
use Rattle.fields_read.specs.declared.faults.FieldFault.TheVariants as field
use Rattle.selector_read.specs.Selectors.{Outcome, reads, refused}
use Rattle.selector_read.specs.Reading.{selector_of}
use Rattle.defs_read.specs.Tables.{type_named, later_fields, queue_fields, required_fields, consumer_fields, later_consumer_fields, required_consumer_fields, line_fields}
use Rattle.defs_read.specs.declared.limits.TheConstants.{LONGEST_LINE, MOST_CONSUMERS}
use Rattle.defs_read.specs.declared.faults.DefsFault.{DefsFault}
use Rattle.defs_read.specs.declared.faults.DefsFault.TheVariants.{LineTooLong, NotJson, UnknownField, MissingField, FloatNumber, BadValue, BadSelector, DoubleName, TooManyConsumers}

-- the greatest number of bytes of a line
abbrev pub longest_line : ℕ
longest_line = LONGEST_LINE

-- the greatest number of consumers of all queues together
abbrev pub most_consumers : ℕ
most_consumers = MOST_CONSUMERS

-- a cause of a field, as one of the definitions
abbrev pub of_field : FieldFault → DefsFault
of_field field.UnknownField = UnknownField
of_field field.MissingField = MissingField
of_field field.FloatNumber = FloatNumber
of_field field.BadValue = BadValue

-- the value is an object
abbrev pub is_object : Data → Bool
is_object d = is_some (as_object d)

-- the name that stands in an object
abbrev pub name_in : Data → List ℕ
name_in d = unwrap_or (text_at Name d) []

-- the name is one of these
abbrev pub is_among : List ℕ → List (List ℕ) → Bool
is_among name names = list_any (bytes_eq name) names

-- a text that is no selector is told of by its first fault
abbrev pub of_outcome : Outcome → Option DefsFault
of_outcome (reads t) = None
of_outcome (refused at kind) = Some (BadSelector at kind)

-- the cause of a consumer's selector; where it has none there is none
abbrev pub selector_fault : Data → Option DefsFault
selector_fault d = option_and_then (λ s. of_outcome (selector_of s)) (text_at Selector d)

-- the causes of a consumer, after consumers with these names
abbrev pub consumer_causes : List (List ℕ) → Data → List (Option DefsFault)
consumer_causes names d =
    cause_if (not (is_object d)) BadValue
    ∷ option_map of_field (presence_fault consumer_fields required_consumer_fields d)
    ∷ option_map of_field (field_fault Name d)
    ∷ cause_if (is_among (name_in d) names) DoubleName
    ∷ option_map of_field (values_fault later_consumer_fields d)
    ∷ selector_fault d
    ∷ cause_if (nat_le most_consumers (length names)) TooManyConsumers
    ∷ []

-- the names of a list of objects
abbrev pub names_in : Items → List (List ℕ)
names_in no_items = []
names_in (item d ds) = name_in d ∷ names_in ds

-- the first cause of a list of consumers, after consumers with these names
abbrev pub consumers_fault : List (List ℕ) → Items → Option DefsFault
consumers_fault names no_items = None
consumers_fault names (item d ds) = first_of (first_of (consumer_causes names d) ∷ consumers_fault (names ++ name_in d ∷ []) ds ∷ [])

-- the causes of a queue, after queues with these names and consumers with those
abbrev pub queue_causes : List (List ℕ) → List (List ℕ) → Data → List (Option DefsFault)
queue_causes queues consumers d =
    cause_if (not (is_object d)) BadValue
    ∷ option_map of_field (presence_fault (queue_fields (type_named (text_at Kind d))) (required_fields (type_named (text_at Kind d))) d)
    ∷ option_map of_field (field_fault Name d)
    ∷ cause_if (is_among (name_in d) queues) DoubleName
    ∷ option_map of_field (values_fault (later_fields (type_named (text_at Kind d))) d)
    ∷ consumers_fault consumers (items_at Consumers d)
    ∷ []

-- the first cause of a list of queues, after queues with these names and consumers with those
abbrev pub queues_fault : List (List ℕ) → List (List ℕ) → Items → Option DefsFault
queues_fault queues consumers no_items = None
queues_fault queues consumers (item d ds) = first_of (first_of (queue_causes queues consumers d) ∷ queues_fault (queues ++ name_in d ∷ []) (consumers ++ names_in (items_at Consumers d)) ds ∷ [])

-- the causes of definitions
abbrev pub defs_causes : Data → List (Option DefsFault)
defs_causes d =
    cause_if (not (is_object d)) BadValue
    ∷ option_map of_field (presence_fault line_fields line_fields d)
    ∷ option_map of_field (field_fault Queues d)
    ∷ queues_fault [] [] (items_at Queues d)
    ∷ []

-- the first cause of a line that is JSON of this value
abbrev pub json_fault : Option Data → Option DefsFault
json_fault None = Some NotJson
json_fault (Some d) = first_of (defs_causes d)

-- the first cause of a line
abbrev pub fault_of : List ℕ → Option DefsFault
fault_of line = first_of (cause_if (nat_lt longest_line (length line)) LineTooLong ∷ json_fault (json_of line) ∷ [])
