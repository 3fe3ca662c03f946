-- what definitions say that have no cause; each field that is missing has its default
use Rattle.std.specs.Prelude.{ℕ, ◌+◌, List, [], ◌∷◌, Option, Some, None, option_and_then, unwrap_or, codes, if◌then◌else◌}
use Rattle.std.specs.Str.{bytes_eq}
use Rattle.queue_model.specs.declared.queues.Limits.{Limits}
use Rattle.queue_model.specs.declared.queues.Policy.{Policy}
use Rattle.queue_model.specs.declared.queues.Policy.TheVariants as policy
use Rattle.serde_json.specs.Data.{Data, Items, no_items, item}
use Rattle.fields_read.specs.Json.{json_of}
use Rattle.fields_read.specs.Forms.{count_items}
use Rattle.fields_read.specs.Fields.{text_at, number_at, items_at}
use Rattle.fields_read.specs.declared.fields.Field.TheVariants.{Queues, Kind, Priorities, SortKey, LvqKey, MaximumMessages, MaximumBytes, OverflowPolicy, Consumers, Actor, Selector}
use Rattle.selector_read.specs.Trees.{Tree}
use Rattle.selector_read.specs.Selectors.{Outcome, reads, refused}
use Rattle.selector_read.specs.Reading.{selector_of}
use Rattle.defs_read.specs.Defined.{Defined}
use Rattle.defs_read.specs.Tables.{type_named}
use Rattle.defs_read.specs.Causes.{name_in}
use Rattle.defs_read.specs.declared.defs.ConsumerDef.{ConsumerDef}
use Rattle.defs_read.specs.declared.defs.QueueKind.{QueueKind}
use Rattle.defs_read.specs.declared.defs.QueueKind.TheVariants as kind
use Rattle.defs_read.specs.declared.tables.QueueType.{QueueType}
use Rattle.defs_read.specs.declared.tables.QueueType.TheVariants.{Standard, Priority, Sorted, LastValue}

-- the header that a last-value queue goes by, unless it says another
abbrev pub default_key : List ℕ
default_key = codes "qpid.LVQ_key"

-- the kind of a queue of this type
abbrev pub kind_by : QueueType → Data → QueueKind
kind_by Standard d = kind.Standard
kind_by Priority d = kind.Priority (unwrap_or (number_at Priorities d) 10)
kind_by Sorted d = kind.Sorted (unwrap_or (text_at SortKey d) [])
kind_by LastValue d = kind.LastValue (unwrap_or (text_at LvqKey d) default_key)

-- the kind of a queue
abbrev pub kind_of : Data → QueueKind
kind_of d = kind_by (type_named (text_at Kind d)) d

-- the policy with this name
abbrev pub policy_named : Option (List ℕ) → Policy
policy_named None = policy.None
policy_named (Some s) = if bytes_eq s (codes "RING") then policy.Ring else (if bytes_eq s (codes "PRODUCER_FLOW_CONTROL") then policy.FlowControl else (if bytes_eq s (codes "FLOW_TO_DISK") then policy.FlowToDisk else (if bytes_eq s (codes "REJECT") then policy.Reject else policy.None)))

-- -1 is no limit, and so is a missing field
abbrev pub limits_of : Data → Limits
limits_of d = record { policy = policy_named (text_at OverflowPolicy d); entries = number_at MaximumMessages d; bytes = number_at MaximumBytes d }

-- the selector that a text is read as
abbrev pub selector_in : Outcome → Option Tree
selector_in (reads t) = Some t
selector_in (refused at kind) = None

-- the selector of a consumer, where it has one
abbrev pub selector_at : Data → Option Tree
selector_at d = option_and_then (λ s. selector_in (selector_of s)) (text_at Selector d)

-- a consumer with this number
abbrev pub consumer_of : ℕ → Data → ConsumerDef
consumer_of n d = record { name = name_in d; actor = unwrap_or (text_at Actor d) []; number = n; selector = selector_at d }

-- the consumers of a list, numbered from n
abbrev pub consumers_of : ℕ → Items → List ConsumerDef
consumers_of n no_items = []
consumers_of n (item d ds) = consumer_of n d ∷ consumers_of (n + 1) ds

-- a queue whose consumers are numbered from n
abbrev pub queue_of : ℕ → Data → Defined
queue_of n d = record { name = name_in d; kind = kind_of d; limits = limits_of d; consumers = consumers_of n (items_at Consumers d) }

-- the queues of a list; consumers are numbered over all queues
abbrev pub queues_of : ℕ → Items → List Defined
queues_of n no_items = []
queues_of n (item d ds) = queue_of n d ∷ queues_of (n + count_items (items_at Consumers d)) ds

-- what a line that is JSON of this value defines
abbrev pub defs_by : Option Data → List Defined
defs_by None = []
defs_by (Some d) = queues_of 0 (items_at Queues d)

-- the queues that a line defines
abbrev pub defs_of : List ℕ → List Defined
defs_of line = defs_by (json_of line)
