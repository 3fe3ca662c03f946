-- the causes that an object has against a table of fields
use Rattle.std.specs.Prelude.{ℕ, ◌∷◌, [], ◌||◌, not, List, map, Bool, true, false, Option, Some, None, Result, Ok, Err, is_some, option_map, option_and_then, unwrap_or}
use Rattle.std.specs.List.{list_any}
use Rattle.std.specs.Str.{bytes_eq}
use Rattle.serde_json.specs.Data.{Data, Members, no_members, member}
use Rattle.serde_json.specs.Find.{as_object}
use Rattle.fields_read.specs.Json.{is_float_number}
use Rattle.fields_read.specs.Forms.{first_of, any_member}
use Rattle.fields_read.specs.Fields.{name_of, accepts, value_at}
use Rattle.fields_read.specs.declared.fields.Field.{Field}
use Rattle.fields_read.specs.declared.fields.Field.TheVariants.{Headers}
use Rattle.fields_read.specs.declared.faults.FieldFault.{FieldFault}
use Rattle.fields_read.specs.declared.faults.FieldFault.TheVariants.{UnknownField, MissingField, FloatNumber, BadValue}

-- a cause where this holds
abbrev pub cause_if : {A : Type 0} → Bool → A → Option A
cause_if true cause = Some cause
cause_if false cause = None

-- the answer of a test that ends at the first cause
abbrev pub passes_unless : {A : Type 0} → Option A → Result (Unit {0}) A
passes_unless None = Ok tt
passes_unless (Some cause) = Err cause

-- one of the fields has this name
abbrev pub is_named : List ℕ → List Field → Bool
is_named name fields = list_any (λ f. bytes_eq (name_of f) name) fields

-- whether a member has a name that none of the fields has
abbrev pub any_unknown : List Field → Members → Bool
any_unknown known no_members = false
any_unknown known (member k d ms) = not (is_named k known) || any_unknown known ms

-- the object has a member that none of these fields names; what is no object has none
abbrev pub has_unknown : List Field → Data → Bool
has_unknown known d = unwrap_or (option_map (any_unknown known) (as_object d)) false

-- whether one of the fields has no value in the object
abbrev pub lacks : List Field → Data → Bool
lacks required d = list_any (λ f. not (is_some (value_at f d))) required

-- UnknownField where a member has the name of no known field, and then MissingField where a required one is missing
abbrev pub presence_fault : List Field → List Field → Data → Option FieldFault
presence_fault known required d = first_of (cause_if (has_unknown known d) UnknownField ∷ cause_if (lacks required d) MissingField ∷ [])

-- whether the field's value is a number that is no whole number of 64 bits; for headers also whether a header is
abbrev pub is_float_at : Field → Data → Bool
is_float_at Headers d = is_float_number d || unwrap_or (option_map (any_member is_float_number) (as_object d)) false
is_float_at f d = is_float_number d

-- FloatNumber, and then BadValue where the field may not have this value
abbrev pub value_fault : Field → Data → Option FieldFault
value_fault f d = first_of (cause_if (is_float_at f d) FloatNumber ∷ cause_if (not (accepts f d)) BadValue ∷ [])

-- the cause of a field in an object: none where it is missing
abbrev pub field_fault : Field → Data → Option FieldFault
field_fault f d = option_and_then (value_fault f) (value_at f d)

-- the first cause of these fields, in their order
abbrev pub values_fault : List Field → Data → Option FieldFault
values_fault fields d = first_of (map (λ f. field_fault f d) fields)
