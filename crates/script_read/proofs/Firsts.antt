-- first causes, where tests come one after the other
use Rattle.std.proofs.Common.{◌≡◌, ℕ, ◌≤◌, List, [], ◌∷◌, Bool, true, false, not, Option, Some, None, Ok, Err, refl, sym, ap, ◌∙◌, arith}
use Rattle.std.specs.Prelude.{◌&&◌, nat_le, if◌then◌else◌, is_some, option_map, option_and_then, unwrap_or}
use Rattle.std.specs.List.{position}
use Rattle.std.specs.Option.{ok_or}
use Rattle.std.specs.Str.{bytes_eq}
use Rattle.std.proofs.lemmas.Bool.Decides.{nat_tests}
use Rattle.serde_json.specs.Data.{Data}
use Rattle.serde_json.specs.Find.{as_number, as_str, as_u64}
use Rattle.fields_read.specs.Faults.{cause_if, passes_unless, field_fault, value_fault, values_fault, presence_fault, is_float_at}
use Rattle.fields_read.specs.Fields.{accepts, value_at}
use Rattle.fields_read.specs.Forms.{first_of}
use Rattle.fields_read.specs.declared.fields.Field.TheVariants.{Do, Actor, Queue, Id, Persistent, Priority, Headers, Body}
use Rattle.fields_read.specs.declared.faults.FieldFault.{FieldFault}
use Rattle.fields_read.specs.declared.faults.FieldFault.TheVariants as field
use Rattle.defs_read.specs.Defined.{Defined}
use Rattle.script_read.specs.Causes.{of_field, queue_named, verb_in, verb_causes, verb_fault, line_fault, message_fault}
use Rattle.script_read.specs.Messages.{message_of, is_too_long}
use Rattle.script_read.specs.Parts.{verb_said, fields_fault, early_fault, early_message_fault, late_fault, names_no_queue, names_no_consumer, priority_in}
use Rattle.script_read.specs.Tables.{fields_of, required_of, message_fields}
use Rattle.script_read.specs.Values.{queue_number}
use Rattle.script_read.specs.declared.faults.LineFault.{LineFault}
use Rattle.script_read.specs.declared.faults.LineFault.TheVariants.{BadValue, MissingField, UnknownQueue, UnknownConsumer, TooLong}
use Rattle.script_read.specs.declared.tables.Verb.{Verb}
use Rattle.script_read.specs.declared.tables.Verb.TheVariants as verb

-- ---- tests of fields

pub presence_stops : (p v : Option FieldFault) (f : FieldFault) → passes_unless p ≡ Err f → passes_unless (first_of (option_map of_field p ∷ option_map of_field v ∷ [])) ≡ Err (of_field f)
presence_stops None v f is = cc
presence_stops (Some g) v f is = cc

pub values_stop : (p v : Option FieldFault) (f : FieldFault) → passes_unless p ≡ Ok tt → passes_unless v ≡ Err f → passes_unless (first_of (option_map of_field p ∷ option_map of_field v ∷ [])) ≡ Err (of_field f)
values_stop None None f passed is = cc
values_stop None (Some g) f passed is = cc
values_stop (Some h) v f passed is = cc

pub passes : {A : Type 0} (cause : Option A) → passes_unless cause ≡ Ok tt → cause ≡ None
passes None is = refl
passes (Some fault) is = cc

pub stops : {A : Type 0} (cause : Option A) (fault : A) → passes_unless cause ≡ Err fault → cause ≡ Some fault
stops None fault is = cc
stops (Some other) fault is = cc

-- ---- the causes of a line

only : (cause : Option LineFault) → first_of (cause ∷ []) ≡ cause
only None = refl
only (Some fault) = refl

verb_starts : (o m : Bool) (w : Option Verb) (v : Verb) (queues : List Defined) (d : Data)
    → (if not o then Err BadValue else (if not m then Err MissingField else ok_or w BadValue)) ≡ Ok v
    → (w ≡ Some v) × (first_of (cause_if (not o) BadValue ∷ cause_if (not m) MissingField ∷ verb_fault queues d w ∷ []) ≡ first_of (verb_causes queues d v))
verb_starts false m w v queues d is = cc
verb_starts true false w v queues d is = cc
verb_starts true true None v queues d is = cc
verb_starts true true (Some w) v queues d is =
    let same : w ≡ v = cc in
    (ap Some same, only (verb_fault queues d (Some w)) ∙ ap (λ (v : Verb). first_of (verb_causes queues d v)) same)

verb_stops : (o m : Bool) (w : Option Verb) (fault : LineFault) (queues : List Defined) (d : Data)
    → (if not o then Err BadValue else (if not m then Err MissingField else ok_or w BadValue)) ≡ Err fault
    → first_of (cause_if (not o) BadValue ∷ cause_if (not m) MissingField ∷ verb_fault queues d w ∷ []) ≡ Some fault
verb_stops false m w fault queues d is = cc
verb_stops true false w fault queues d is = cc
verb_stops true true None fault queues d is = cc
verb_stops true true (Some w) fault queues d is = cc

-- four causes with none among them, and one more
late : (a b c e t : Option LineFault) → first_of (first_of (a ∷ b ∷ []) ∷ c ∷ e ∷ []) ≡ None → first_of (a ∷ b ∷ c ∷ e ∷ t ∷ []) ≡ t
late (Some x) b c e t is = cc
late None (Some x) c e t is = cc
late None None (Some x) e t is = cc
late None None None (Some x) t is = cc
late None None None None t is = only t

-- the first of four causes, before one more
early : (a b c e t : Option LineFault) (fault : LineFault) → first_of (first_of (a ∷ b ∷ []) ∷ c ∷ e ∷ []) ≡ Some fault → first_of (a ∷ b ∷ c ∷ e ∷ t ∷ []) ≡ Some fault
early (Some x) b c e t fault is = is
early None (Some x) c e t fault is = is
early None None (Some x) e t fault is = is
early None None None (Some x) t fault is = is
early None None None None t fault is = cc

second_none : (a c e : Option LineFault) (v : Option FieldFault) → first_of (first_of (a ∷ option_map of_field v ∷ []) ∷ c ∷ e ∷ []) ≡ None → v ≡ None
second_none (Some x) c e v is = cc
second_none None c e None is = refl
second_none None c e (Some x) is = cc

-- what the line does was read
pub says_verb : (queues : List Defined) (d : Data) (v : Verb) → verb_said d ≡ Ok v → verb_in d ≡ Some v
says_verb queues d v is = (verb_starts _ _ _ v queues d is).0

-- it was not
pub no_verb : (queues : List Defined) (d : Data) (fault : LineFault) → verb_said d ≡ Err fault → line_fault queues d ≡ Some fault
no_verb queues d fault is = verb_stops _ _ _ fault queues d is

-- the line has no cause before TooLong
pub line_late : (queues : List Defined) (d : Data) (v : Verb) → verb_said d ≡ Ok v → early_fault queues d v ≡ None → line_fault queues d ≡ late_fault d v
unfolding fields_fault names_no_queue names_no_consumer
line_late queues d v is none = (verb_starts _ _ _ v queues d is).1 ∙ late (option_map of_field (presence_fault (Do ∷ fields_of v) (required_of v) d)) (option_map of_field (values_fault (fields_of v) d)) (cause_if (names_no_queue queues d) UnknownQueue) (cause_if (names_no_consumer queues d) UnknownConsumer) (late_fault d v) none

-- the line has one
pub line_early : (queues : List Defined) (d : Data) (v : Verb) (fault : LineFault) → verb_said d ≡ Ok v → early_fault queues d v ≡ Some fault → line_fault queues d ≡ Some fault
unfolding fields_fault names_no_queue names_no_consumer
line_early queues d v fault is cause = (verb_starts _ _ _ v queues d is).1 ∙ early (option_map of_field (presence_fault (Do ∷ fields_of v) (required_of v) d)) (option_map of_field (values_fault (fields_of v) d)) (cause_if (names_no_queue queues d) UnknownQueue) (cause_if (names_no_consumer queues d) UnknownConsumer) (late_fault d v) fault cause

-- its values have none
pub values_right : (queues : List Defined) (d : Data) (v : Verb) → early_fault queues d v ≡ None → values_fault (fields_of v) d ≡ None
unfolding fields_fault
values_right queues d v none = second_none _ _ _ _ none

-- ---- the causes of a message

late_third : (a b c t : Option LineFault) → first_of (a ∷ first_of (b ∷ c ∷ []) ∷ []) ≡ None → first_of (a ∷ b ∷ c ∷ t ∷ []) ≡ t
late_third (Some x) b c t is = cc
late_third None (Some x) c t is = cc
late_third None None (Some x) t is = cc
late_third None None None t is = only t

early_third : (a b c t : Option LineFault) (fault : LineFault) → first_of (a ∷ first_of (b ∷ c ∷ []) ∷ []) ≡ Some fault → first_of (a ∷ b ∷ c ∷ t ∷ []) ≡ Some fault
early_third (Some x) b c t fault is = is
early_third None (Some x) c t fault is = is
early_third None None (Some x) t fault is = is
early_third None None None t fault is = cc

last_none : (a b : Option LineFault) (v : Option FieldFault) → first_of (a ∷ first_of (b ∷ option_map of_field v ∷ []) ∷ []) ≡ None → v ≡ None
last_none (Some x) b v is = cc
last_none None (Some x) v is = cc
last_none None None None is = refl
last_none None None (Some x) is = cc

pub message_late : (d : Data) → early_message_fault d ≡ None → message_fault d ≡ cause_if (is_too_long (message_of d)) TooLong
unfolding fields_fault
message_late d none = late_third _ _ _ _ none

pub message_early : (d : Data) (fault : LineFault) → early_message_fault d ≡ Some fault → message_fault d ≡ Some fault
unfolding fields_fault
message_early d fault cause = early_third _ _ _ _ fault cause

pub message_right : (d : Data) → early_message_fault d ≡ None → values_fault message_fields d ≡ None
unfolding fields_fault
message_right d none = last_none _ _ _ none

-- ---- priorities

third_none : (a b c : Option FieldFault) (more : List (Option FieldFault)) → first_of (a ∷ b ∷ c ∷ more) ≡ None → c ≡ None
third_none (Some x) b c more is = cc
third_none None (Some x) c more is = cc
third_none None None None more is = refl
third_none None None (Some x) more is = cc

fifth_none : (a b c e f : Option FieldFault) (more : List (Option FieldFault)) → first_of (a ∷ b ∷ c ∷ e ∷ f ∷ more) ≡ None → f ≡ None
fifth_none (Some x) b c e f more is = cc
fifth_none None (Some x) c e f more is = cc
fifth_none None None c e f more is = third_none c e f more is

accepted : (float good : Bool) → first_of (cause_if float field.FloatNumber ∷ cause_if (not good) field.BadValue ∷ []) ≡ None → good ≡ true
accepted true good is = cc
accepted false true is = refl
accepted false false is = cc

within : (n : Option ℕ) → unwrap_or (option_map (λ n. nat_le 0 n && nat_le n 9) n) false ≡ true → unwrap_or n 4 ≤ 9
within None is = cc
within (Some n) is = grind (arith, nat_tests)

priority_by : (x : Option Data) → option_and_then (value_fault Priority) x ≡ None → unwrap_or (option_and_then as_u64 (option_and_then as_number x)) 4 ≤ 9
priority_by None is = omega arith
priority_by (Some x) is = within (option_and_then as_u64 (as_number x)) (accepted (is_float_at Priority x) (accepts Priority x) is)

pub priority_of_put : (d : Data) (v : Verb) → v ≡ verb.Put → values_fault (fields_of v) d ≡ None → priority_in d ≤ 9
priority_of_put d v is none = priority_by (value_at Priority d) (fifth_none (field_fault Actor d) (field_fault Queue d) (field_fault Id d) (field_fault Persistent d) (field_fault Priority d) (field_fault Headers d ∷ field_fault Body d ∷ []) (rw is at none))

pub priority_of_message : (d : Data) → values_fault message_fields d ≡ None → priority_in d ≤ 9
priority_of_message d none = priority_by (value_at Priority d) (third_none _ _ _ _ none)

-- ---- the queue that a line names

known_by : (named : Bool) (at : Option ℕ) (n : ℕ) → at ≡ Some n → ((named && not (is_some at)) ≡ false) × (n ≡ unwrap_or at 0)
known_by true None n is = cc
known_by false None n is = cc
known_by true (Some m) n is = let same : m ≡ n = cc in (refl, sym same)
known_by false (Some m) n is = let same : m ≡ n = cc in (refl, sym same)

pub queue_known : (queues : List Defined) (d : Data) (n : ℕ) → queue_named queues d ≡ Some n → (names_no_queue queues d ≡ false) × (n ≡ queue_number queues d)
unfolding names_no_queue
queue_known queues d n is = known_by (is_some (value_at Queue d)) (queue_named queues d) n is

unknown_by : (x : Option Data) (at : Option ℕ) (y : Data) → x ≡ Some y → at ≡ None → (is_some x && not (is_some at)) ≡ true
unknown_by None at y named is = cc
unknown_by (Some z) None y named is = refl
unknown_by (Some z) (Some n) y named is = cc

pub queue_unknown : (queues : List Defined) (d x : Data) → value_at Queue d ≡ Some x → queue_named queues d ≡ None → names_no_queue queues d ≡ true
unfolding names_no_queue
queue_unknown queues d x named is = unknown_by (value_at Queue d) (queue_named queues d) x named is

unnamed_by : (x : Option Data) (at : Option ℕ) → x ≡ None → at ≡ None → ((is_some x && not (is_some at)) ≡ false) × (0 ≡ unwrap_or at 0)
unnamed_by None None named is = (refl, refl)
unnamed_by None (Some n) named is = cc
unnamed_by (Some z) at named is = cc

pub queue_unnamed : (queues : List Defined) (d : Data) → value_at Queue d ≡ None → queue_named queues d ≡ None → (names_no_queue queues d ≡ false) × (0 ≡ queue_number queues d)
unfolding names_no_queue
queue_unnamed queues d named is = unnamed_by (value_at Queue d) (queue_named queues d) named is

-- the place of a queue by the text that was found
pub place_named : (queues : List Defined) (d : Data) (found : Option Data) (text : List ℕ) (place : Option ℕ) → found ≡ value_at Queue d → text ≡ unwrap_or (option_and_then as_str found) [] → place ≡ position (λ q. bytes_eq q.name text) queues → place ≡ queue_named queues d
place_named queues d found text place is says at = at ∙ ap (λ (t : List ℕ). position (λ q. bytes_eq q.name t) queues) (says ∙ ap (λ (o : Option Data). unwrap_or (option_and_then as_str o) []) is)
