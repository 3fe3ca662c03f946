-- the fields of definitions and of script lines: how each is called, and what its value may be
use Rattle.std.specs.Prelude.{ℕ, ◌^◌, ◌-◌, ◌∷◌, [], List, Bool, Option, codes, is_some, option_and_then, unwrap_or}
use Rattle.serde_json.specs.Data.{Data, Items, no_items, Members, no_members}
use Rattle.serde_json.specs.Find.{get, as_bool, as_number, as_str, as_array, as_object, as_u64}
use Rattle.fields_read.specs.Forms.{is_name, is_text_with, is_text_within, is_one_of, is_whole, is_limit, is_list_of, are_headers}
use Rattle.fields_read.specs.declared.fields.Field.{Field}
use Rattle.fields_read.specs.declared.limits.TheConstants.{LONGEST_KEY, MOST_PRIORITIES, MOST_QUEUES, TOP_PRIORITY}
use Rattle.fields_read.specs.declared.fields.Field.TheVariants.{Queues, Name, Kind, Priorities, SortKey, LvqKey, MaximumMessages, MaximumBytes, OverflowPolicy, Consumers, Actor, Selector, Do, Queue, Consumer, Id, Persistent, Priority, Headers, Body}

-- the name that the field has in an object
abbrev pub name_of : Field → List ℕ
name_of Queues = codes "queues"
name_of Name = codes "name"
name_of Kind = codes "type"
name_of Priorities = codes "priorities"
name_of SortKey = codes "sortKey"
name_of LvqKey = codes "lvqKey"
name_of MaximumMessages = codes "maximumQueueDepthMessages"
name_of MaximumBytes = codes "maximumQueueDepthBytes"
name_of OverflowPolicy = codes "overflowPolicy"
name_of Consumers = codes "consumers"
name_of Actor = codes "actor"
name_of Selector = codes "selector"
name_of Do = codes "do"
name_of Queue = codes "queue"
name_of Consumer = codes "consumer"
name_of Id = codes "id"
name_of Persistent = codes "persistent"
name_of Priority = codes "priority"
name_of Headers = codes "headers"
name_of Body = codes "body"

-- the types of queues
abbrev pub types : List (List ℕ)
types = codes "standard" ∷ codes "priority" ∷ codes "sorted" ∷ codes "lvq" ∷ []

-- what may happen to a message that is over a queue's limits
abbrev pub policies : List (List ℕ)
policies = codes "NONE" ∷ codes "RING" ∷ codes "PRODUCER_FLOW_CONTROL" ∷ codes "FLOW_TO_DISK" ∷ codes "REJECT" ∷ []

-- whether the field may have this value
abbrev pub accepts : Field → Data → Bool
accepts Queues d = is_list_of MOST_QUEUES d
accepts Name d = is_text_with is_name d
accepts Kind d = is_one_of types d
accepts Priorities d = is_whole 1 MOST_PRIORITIES d
accepts SortKey d = is_text_within 1 LONGEST_KEY d
accepts LvqKey d = is_text_within 1 LONGEST_KEY d
accepts MaximumMessages d = is_limit d
accepts MaximumBytes d = is_limit d
accepts OverflowPolicy d = is_one_of policies d
accepts Consumers d = is_some (as_array d)
accepts Actor d = is_text_with is_name d
accepts Selector d = is_some (as_str d)
accepts Do d = is_some (as_str d)
accepts Queue d = is_text_with is_name d
accepts Consumer d = is_text_with is_name d
accepts Id d = is_whole 0 (2 ^ 64 - 1) d
accepts Persistent d = is_some (as_bool d)
accepts Priority d = is_whole 0 TOP_PRIORITY d
accepts Headers d = are_headers d
accepts Body d = is_some (as_str d)

-- The value of a field in an object, read as what it has to be; none where the field is missing or is something else

-- the value of the field, whatever it is
abbrev pub value_at : Field → Data → Option Data
value_at f d = get (name_of f) d

-- its text
abbrev pub text_at : Field → Data → Option (List ℕ)
text_at f d = option_and_then as_str (value_at f d)

-- its number, a whole one from 0 to 2 ^ 64 - 1
abbrev pub number_at : Field → Data → Option ℕ
number_at f d = option_and_then as_u64 (option_and_then as_number (value_at f d))

-- its truth value
abbrev pub truth_at : Field → Data → Option Bool
truth_at f d = option_and_then as_bool (value_at f d)

-- a list, and the members of an object: empty where the field is missing or is something else

-- the values of the field's list
abbrev pub items_at : Field → Data → Items
items_at f d = unwrap_or (option_and_then as_array (value_at f d)) no_items

-- the members of the field's object
abbrev pub members_at : Field → Data → Members
members_at f d = unwrap_or (option_and_then as_object (value_at f d)) no_members
