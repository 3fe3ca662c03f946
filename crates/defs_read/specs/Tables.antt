-- the fields of the objects of definitions (docs/SCRIPT.md, "Definitions")
use Rattle.std.specs.Prelude.{ℕ, List, [], ◌∷◌, ◌++◌, Option, Some, None, codes, if◌then◌else◌}
use Rattle.std.specs.Str.{bytes_eq}
use Rattle.fields_read.specs.declared.fields.Field.{Field}
use Rattle.fields_read.specs.declared.fields.Field.TheVariants.{Queues, Name, Kind, Priorities, SortKey, LvqKey, MaximumMessages, MaximumBytes, OverflowPolicy, Consumers, Actor, Selector}
use Rattle.defs_read.specs.declared.tables.QueueType.{QueueType}
use Rattle.defs_read.specs.declared.tables.QueueType.TheVariants.{Standard, Priority, Sorted, LastValue}

-- the type with this name; without one, or where no type has the name, the standard one
abbrev pub type_named : Option (List ℕ) → QueueType
type_named None = Standard
type_named (Some s) = if bytes_eq s (codes "priority") then Priority else (if bytes_eq s (codes "sorted") then Sorted else (if bytes_eq s (codes "lvq") then LastValue else Standard))

-- the field that only this type has
abbrev pub own_fields : QueueType → List Field
own_fields Standard = []
own_fields Priority = Priorities ∷ []
own_fields Sorted = SortKey ∷ []
own_fields LastValue = LvqKey ∷ []

-- the fields that a queue of this type may have behind its name, in order
abbrev pub later_fields : QueueType → List Field
later_fields t = Kind ∷ (own_fields t ++ (MaximumMessages ∷ MaximumBytes ∷ OverflowPolicy ∷ Consumers ∷ []))

-- all fields of a queue of this type, in order
abbrev pub queue_fields : QueueType → List Field
queue_fields t = Name ∷ later_fields t

-- the fields that must stand
abbrev pub required_fields : QueueType → List Field
required_fields Standard = Name ∷ []
required_fields Priority = Name ∷ []
required_fields Sorted = Name ∷ SortKey ∷ []
required_fields LastValue = Name ∷ []

-- the fields that a consumer may have behind its name, in order
abbrev pub later_consumer_fields : List Field
later_consumer_fields = Actor ∷ Selector ∷ []

-- all fields of a consumer, in order
abbrev pub consumer_fields : List Field
consumer_fields = Name ∷ later_consumer_fields

-- those of a consumer's fields that must stand
abbrev pub required_consumer_fields : List Field
required_consumer_fields = Name ∷ Actor ∷ []

-- the whole line has this one
abbrev pub line_fields : List Field
line_fields = Queues ∷ []
