-- what the steps of reading say: the first cause, or what was read
use Rattle.std.specs.Prelude.{◌≡◌, ◌⊎◌, ℕ, List, [], ◌∷◌, ◌++◌, map, not, Option, Some, None, Result, MatchResult, option_map}
use denote.Ref.{Bor}
use Rattle.indexmap.specs.IndexSet.{IndexSet}
use Rattle.serde_json.specs.Data.{Data}
use Rattle.fields_read.specs.Faults.{cause_if, presence_fault, field_fault, values_fault}
use Rattle.fields_read.specs.declared.fields.Field.{Field}
use Rattle.fields_read.specs.declared.fields.Field.TheVariants.{Name}
use Rattle.defs_read.specs.Causes.{of_field, is_object, name_in, is_among}
use Rattle.defs_read.specs.Tables.{later_fields, queue_fields, required_fields}
use Rattle.defs_read.specs.declared.tables.QueueType.{QueueType}
use Rattle.defs_read.specs.declared.faults.DefsFault.{DefsFault}
use Rattle.defs_read.specs.declared.faults.DefsFault.TheVariants.{BadValue, DoubleName, NoMemory}

-- This is the cause. Want of memory may come in place of any.
abbrev pub Refuses : DefsFault → Option DefsFault → Type 0
Refuses fault cause = (fault ≡ NoMemory) ⊎ (cause ≡ Some fault)

-- There is no cause, and this holds of the value; or the cause is told.
abbrev pub Reads : {A : Type 0} → Result A DefsFault → Option DefsFault → (A → Type 0) → Type 0
Reads result cause holds = MatchResult result (λ value. (cause ≡ None) × holds value) (λ fault. Refuses fault cause)

-- the names that a set borrows, in the order in which they came
abbrev pub names_of : {S : Type 0} → IndexSet (Bor (List ℕ)) S → List (List ℕ)
names_of set = map (λ k. k.now) set.keys

-- the causes of any object, before the values of its fields
abbrev pub object_causes : List Field → List Field → Data → List (Option DefsFault)
object_causes known required d =
    cause_if (not (is_object d)) BadValue
    ∷ option_map of_field (presence_fault known required d)
    ∷ []

-- the causes of an object with a name, before those of its further fields
abbrev pub named_causes : List Field → List Field → List (List ℕ) → Data → List (Option DefsFault)
named_causes known required names d =
    object_causes known required d
    ++ (option_map of_field (field_fault Name d)
    ∷ cause_if (is_among (name_in d) names) DoubleName
    ∷ [])

-- the causes of a queue of this type, before those of its consumers
abbrev pub typed_causes : QueueType → List (List ℕ) → Data → List (Option DefsFault)
typed_causes t names d =
    named_causes (queue_fields t) (required_fields t) names d
    ++ (option_map of_field (values_fault (later_fields t) d)
    ∷ [])
