-- the names, keys and limits of definitions that have no cause
use Rattle.std.proofs.Common.{◌≡◌, ℕ, ◌+◌, ◌^◌, ◌≤◌, Bool, true, false, not, List, [], ◌∷◌, ◌++◌, length, map, Option, Some, None, refl, arith}
use Rattle.std.specs.Prelude.{All, nat_le, nat_lt, ◌&&◌, ◌||◌, if◌then◌else◌, is_some, option_and_then, option_map, unwrap_or, pos, negsuc}
use Rattle.std.specs.Ordering.{int_eq}
use Rattle.std.proofs.lemmas.Bool.Decides.{nat_tests}
use Rattle.std.proofs.lemmas.List.Elements.{All-cons, All-nil}
use Rattle.serde_json.specs.Data.{Data, Items, no_items, item, Num, unsigned, negative, float}
use Rattle.serde_json.specs.Find.{as_i64, as_number, as_str, as_u64}
use Rattle.fields_read.specs.Faults.{cause_if, field_fault, is_float_at, lacks, presence_fault, value_fault, values_fault}
use Rattle.fields_read.specs.Fields.{items_at, number_at, text_at, value_at}
use Rattle.fields_read.specs.Forms.{first_of, is_limit, is_name, is_text_with, is_text_within}
use Rattle.fields_read.specs.declared.fields.Field.TheVariants.{Actor, Kind, LvqKey, MaximumBytes, MaximumMessages, Name, SortKey}
use Rattle.defs_read.specs.Allowed.{HasKey, IsLimit, IsNamed}
use Rattle.defs_read.specs.Causes.{consumer_causes, consumers_fault, name_in, of_field, queue_causes}
use Rattle.defs_read.specs.Tables.{consumer_fields, later_consumer_fields, later_fields, queue_fields, required_consumer_fields, required_fields, type_named}
use Rattle.defs_read.specs.Values.{consumer_of, consumers_of, default_key, kind_by, limits_of}
use Rattle.defs_read.specs.declared.defs.ConsumerDef.{ConsumerDef}
use Rattle.defs_read.specs.declared.tables.QueueType.{QueueType}
use Rattle.defs_read.specs.declared.tables.QueueType.TheVariants.{Standard, Priority, Sorted, LastValue}
use Rattle.defs_read.proofs.NoCauses.{accepted, all_stand, no_cause, no_value_cause, unmapped}

-- ---- texts

-- what holds of a text holds of it, whatever stands for a missing one
text_holds : (holds : List ℕ → Bool) (o : Option (List ℕ)) (other : List ℕ) → unwrap_or (option_map holds o) false ≡ true → holds (unwrap_or o other) ≡ true
text_holds holds None other good = cc
text_holds holds (Some s) other good = good

name_stands : (o : Option Data) → not (is_some o) ≡ false → option_and_then (value_fault Name) o ≡ None → is_name (unwrap_or (option_and_then as_str o) []) ≡ true
name_stands None stands none = cc
name_stands (Some v) stands none = text_holds is_name (as_str v) [] (accepted (is_float_at Name v) (is_text_with is_name v) none)

actor_stands : (o : Option Data) → not (is_some o) ≡ false → option_and_then (value_fault Actor) o ≡ None → is_name (unwrap_or (option_and_then as_str o) []) ≡ true
actor_stands None stands none = cc
actor_stands (Some v) stands none = text_holds is_name (as_str v) [] (accepted (is_float_at Actor v) (is_text_with is_name v) none)

-- ---- keys

abbrev is_key : List ℕ → Bool
is_key s = nat_le 1 (length s) && nat_le (length s) 255

key_bounds : (s : List ℕ) → is_key s ≡ true → (1 ≤ length s) × (length s ≤ 255)
key_bounds s good = (grind (arith, nat_tests), grind (arith, nat_tests))

sort_key : (o : Option Data) → not (is_some o) ≡ false → option_and_then (value_fault SortKey) o ≡ None → is_key (unwrap_or (option_and_then as_str o) []) ≡ true
sort_key None stands none = cc
sort_key (Some v) stands none = text_holds is_key (as_str v) [] (accepted (is_float_at SortKey v) (is_text_within 1 255 v) none)

last_value_key : (o : Option Data) → option_and_then (value_fault LvqKey) o ≡ None → is_key (unwrap_or (option_and_then as_str o) default_key) ≡ true
last_value_key None none = refl
last_value_key (Some v) none = text_holds is_key (as_str v) default_key (accepted (is_float_at LvqKey v) (is_text_within 1 255 v) none)

first_two : (a b : Bool) → (a || (b || false)) ≡ false → (a ≡ false) × (b ≡ false)
first_two true b none = cc
first_two false true none = cc
first_two false false none = (refl, refl)

key_of_type : (t : QueueType) (d : Data) → lacks (required_fields t) d ≡ false → values_fault (later_fields t) d ≡ None → HasKey (kind_by t d)
key_of_type Standard d stand none = tt
key_of_type Priority d stand none = tt
key_of_type Sorted d stand none = key_bounds _ (sort_key (value_at SortKey d) (first_two (not (is_some (value_at Name d))) (not (is_some (value_at SortKey d))) stand).1 (no_cause (map (λ f. field_fault f d) (later_fields Sorted)) 1 none))
key_of_type LastValue d stand none = key_bounds _ (last_value_key (value_at LvqKey d) (no_cause (map (λ f. field_fault f d) (later_fields LastValue)) 1 none))

-- ---- limits

abbrev is_minus : Option Num → Bool
is_minus o = unwrap_or (option_map (λ z. int_eq z (negsuc 0)) (option_and_then as_i64 o)) false

abbrev is_small : Option Num → Bool
is_small o = unwrap_or (option_map (λ n. nat_le 1 n && nat_le n (2 ^ 40)) (option_and_then as_u64 o)) false

no_sign : (small : Bool) (n : ℕ) → unwrap_or (option_map (λ z. int_eq z (negsuc 0)) (if small then Some (pos n) else None)) false ≡ false
no_sign true n = refl
no_sign false n = refl

one_of : (a b : Bool) → a ≡ false → (a || b) ≡ true → b ≡ true
one_of true b none good = cc
one_of false b none good = good

limit_is : (o : Option Num) → (is_minus o || is_small o) ≡ true → IsLimit (option_and_then as_u64 o)
limit_is None good = tt
limit_is (Some (unsigned n)) good =
    let small : (nat_le 1 n && nat_le n (2 ^ 40)) ≡ true = one_of (is_minus (Some (unsigned n))) (is_small (Some (unsigned n))) (no_sign (nat_lt n (2 ^ 63)) n) good in
    (grind (arith, nat_tests), grind (arith, nat_tests))
limit_is (Some (negative z)) good = tt
limit_is (Some (float x)) good = tt

entries_limit : (o : Option Data) → option_and_then (value_fault MaximumMessages) o ≡ None → IsLimit (option_and_then as_u64 (option_and_then as_number o))
entries_limit None none = tt
entries_limit (Some v) none = limit_is (as_number v) (accepted (is_float_at MaximumMessages v) (is_limit v) none)

bytes_limit : (o : Option Data) → option_and_then (value_fault MaximumBytes) o ≡ None → IsLimit (option_and_then as_u64 (option_and_then as_number o))
bytes_limit None none = tt
bytes_limit (Some v) none = limit_is (as_number v) (accepted (is_float_at MaximumBytes v) (is_limit v) none)

pub entries_within : (t : QueueType) (d : Data) → values_fault (later_fields t) d ≡ None → IsLimit (number_at MaximumMessages d)
entries_within Standard d none = entries_limit (value_at MaximumMessages d) (no_cause (map (λ f. field_fault f d) (later_fields Standard)) 1 none)
entries_within Priority d none = entries_limit (value_at MaximumMessages d) (no_cause (map (λ f. field_fault f d) (later_fields Priority)) 2 none)
entries_within Sorted d none = entries_limit (value_at MaximumMessages d) (no_cause (map (λ f. field_fault f d) (later_fields Sorted)) 2 none)
entries_within LastValue d none = entries_limit (value_at MaximumMessages d) (no_cause (map (λ f. field_fault f d) (later_fields LastValue)) 2 none)

pub bytes_within : (t : QueueType) (d : Data) → values_fault (later_fields t) d ≡ None → IsLimit (number_at MaximumBytes d)
bytes_within Standard d none = bytes_limit (value_at MaximumBytes d) (no_cause (map (λ f. field_fault f d) (later_fields Standard)) 2 none)
bytes_within Priority d none = bytes_limit (value_at MaximumBytes d) (no_cause (map (λ f. field_fault f d) (later_fields Priority)) 3 none)
bytes_within Sorted d none = bytes_limit (value_at MaximumBytes d) (no_cause (map (λ f. field_fault f d) (later_fields Sorted)) 3 none)
bytes_within LastValue d none = bytes_limit (value_at MaximumBytes d) (no_cause (map (λ f. field_fault f d) (later_fields LastValue)) 3 none)

-- ---- queues

-- a name must stand in a queue of each type
name_first : (t : QueueType) (d : Data) → lacks (required_fields t) d ≡ false → not (is_some (value_at Name d)) ≡ false
name_first Standard d stand = (first_two (not (is_some (value_at Name d))) false stand).0
name_first Priority d stand = (first_two (not (is_some (value_at Name d))) false stand).0
name_first Sorted d stand = (first_two (not (is_some (value_at Name d))) (not (is_some (value_at SortKey d))) stand).0
name_first LastValue d stand = (first_two (not (is_some (value_at Name d))) false stand).0

module _ (queues consumers : List (List ℕ)) (d : Data) (none : first_of (queue_causes queues consumers d) ≡ None) where
  abbrev t : QueueType
  t = type_named (text_at Kind d)

  stand : lacks (required_fields t) d ≡ false
  stand = all_stand (queue_fields t) (required_fields t) d (no_cause (queue_causes queues consumers d) 1 none)

  pub queue_name : is_name (name_in d) ≡ true
  queue_name = name_stands (value_at Name d) (name_first t d stand) (unmapped (field_fault Name d) (no_cause (queue_causes queues consumers d) 2 none))

  pub key_within : HasKey (kind_by t d)
  key_within = key_of_type t d stand (no_value_cause queues consumers d none)

-- ---- consumers

named : (n : ℕ) (names : List (List ℕ)) (d : Data) → first_of (consumer_causes names d) ≡ None → IsNamed (consumer_of n d)
named n names d none =
    let stand = first_two (not (is_some (value_at Name d))) (not (is_some (value_at Actor d))) (all_stand consumer_fields required_consumer_fields d (no_cause (consumer_causes names d) 1 none)) in
    let values : values_fault later_consumer_fields d ≡ None = unmapped (values_fault later_consumer_fields d) (no_cause (consumer_causes names d) 4 none) in
    record {
      name = name_stands (value_at Name d) stand.0 (unmapped (field_fault Name d) (no_cause (consumer_causes names d) 2 none));
      actor = actor_stands (value_at Actor d) stand.1 (no_cause (map (λ f. field_fault f d) later_consumer_fields) 0 values);
    }

pub all_named : (n : ℕ) (names : List (List ℕ)) (ds : Items) → consumers_fault names ds ≡ None → All IsNamed (consumers_of n ds)
all_named n names no_items none = All-nil IsNamed
all_named n names (item d ds) none =
    let causes = first_of (consumer_causes names d) ∷ consumers_fault (names ++ name_in d ∷ []) ds ∷ [] in
    All-cons IsNamed (consumer_of n d) (consumers_of (n + 1) ds) (named n names d (no_cause causes 0 none)) (all_named (n + 1) (names ++ name_in d ∷ []) ds (no_cause causes 1 none))
