-- what follows where definitions have no cause: each single cause is absent
use Rattle.std.proofs.Common.{◌≡◌, ℕ, zero, suc, Bool, true, false, not, List, [], ◌∷◌, ◌++◌, get_or, Option, Some, None, refl}
use Rattle.std.specs.Prelude.{option_map}
use Rattle.serde_json.specs.Data.{Data, Items, item}
use Rattle.fields_read.specs.Faults.{cause_if, lacks, presence_fault, has_unknown, values_fault}
use Rattle.fields_read.specs.Fields.{items_at, text_at}
use Rattle.fields_read.specs.Forms.{first_of}
use Rattle.fields_read.specs.declared.fields.Field.{Field}
use Rattle.fields_read.specs.declared.fields.Field.TheVariants.{Consumers, Kind}
use Rattle.fields_read.specs.declared.faults.FieldFault.{FieldFault}
use Rattle.fields_read.specs.declared.faults.FieldFault.TheVariants.{UnknownField, MissingField, FloatNumber, BadValue}
use Rattle.defs_read.specs.Causes.{consumers_fault, name_in, names_in, of_field, queue_causes, queues_fault}
use Rattle.defs_read.specs.Tables.{later_fields, type_named}
use Rattle.defs_read.specs.declared.faults.DefsFault.{DefsFault}
use Rattle.defs_read.specs.declared.tables.QueueType.{QueueType}

-- where a list of causes has none, none of them is there
pub no_cause : {A : Type 0} (causes : List (Option A)) (i : ℕ) → first_of causes ≡ None → get_or causes i None ≡ None
no_cause [] i none = refl
no_cause (Some c ∷ causes) i none = cc
no_cause (None ∷ causes) zero none = refl
no_cause (None ∷ causes) (suc i) none = no_cause causes i none

pub unmapped : (c : Option FieldFault) → option_map of_field c ≡ None → c ≡ None
unmapped None none = refl
unmapped (Some c) none = cc

pub untested : {A : Type 0} (holds : Bool) (cause : A) → cause_if holds cause ≡ None → holds ≡ false
untested true cause none = cc
untested false cause none = refl

pub accepted : (float good : Bool) → first_of (cause_if float FloatNumber ∷ cause_if (not good) BadValue ∷ []) ≡ None → good ≡ true
accepted float true none = refl
accepted true false none = cc
accepted false false none = cc

-- where the first cause of an object's fields is absent, all that must stand do
pub all_stand : (known required : List Field) (d : Data) → option_map of_field (presence_fault known required d) ≡ None → lacks required d ≡ false
all_stand known required d none = untested (lacks required d) MissingField (no_cause (cause_if (has_unknown known d) UnknownField ∷ cause_if (lacks required d) MissingField ∷ []) 1 (unmapped (presence_fault known required d) none))

-- the values of a queue have no cause
module _ (queues consumers : List (List ℕ)) (d : Data) (none : first_of (queue_causes queues consumers d) ≡ None) where
  abbrev t : QueueType
  t = type_named (text_at Kind d)

  pub no_value_cause : values_fault (later_fields t) d ≡ None
  no_value_cause = unmapped (values_fault (later_fields t) d) (no_cause (queue_causes queues consumers d) 4 none)

  pub no_consumer_cause : consumers_fault consumers (items_at Consumers d) ≡ None
  no_consumer_cause = no_cause (queue_causes queues consumers d) 5 none

-- a queue, and those behind it
module _ (queues consumers : List (List ℕ)) (d : Data) (ds : Items) (none : queues_fault queues consumers (item d ds) ≡ None) where
  abbrev causes : List (Option DefsFault)
  causes = first_of (queue_causes queues consumers d) ∷ queues_fault (queues ++ name_in d ∷ []) (consumers ++ names_in (items_at Consumers d)) ds ∷ []

  pub own_cause : first_of (queue_causes queues consumers d) ≡ None
  own_cause = no_cause causes 0 none

  pub later_cause : queues_fault (queues ++ name_in d ∷ []) (consumers ++ names_in (items_at Consumers d)) ds ≡ None
  later_cause = no_cause causes 1 none
