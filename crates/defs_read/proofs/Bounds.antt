-- definitions that have no cause are within their limits
use Rattle.std.proofs.Common.{◌≡◌, ℕ, zero, suc, ◌+◌, ◌<◌, ◌≤◌, Bool, true, false, not, List, [], ◌∷◌, ◌++◌, length, map, get_or, Option, Some, None, refl, zero-add, ap, subst, ◌∙◌, arith}
use Rattle.std.specs.Prelude.{All, nat_le, ◌&&◌, ◌||◌, is_some, option_and_then, option_map, unwrap_or, slice_get}
use Rattle.std.proofs.lemmas.Bool.Decides.{nat_tests}
use Rattle.std.proofs.lemmas.List.{length-append, length_push}
use Rattle.std.proofs.lemmas.List.Elements.{All-append, All-cons, All-get_or, All-nil}
use Rattle.std.proofs.lemmas.Option.{get_or_from_slice_get, slice_get-map, slice_get_within}
use Rattle.serde_json.specs.Data.{Data, Items, no_items, item}
use Rattle.serde_json.specs.Find.{as_array, as_number, as_u64}
use Rattle.fields_read.specs.Faults.{cause_if, field_fault, has_unknown, is_float_at, lacks, presence_fault, value_fault, values_fault}
use Rattle.fields_read.specs.Fields.{items_at, text_at, value_at}
use Rattle.fields_read.specs.Forms.{count_items, first_of, is_list_of, is_whole}
use Rattle.fields_read.specs.declared.fields.Field.TheVariants.{Consumers, Kind, Priorities, Queues}
use Rattle.fields_read.specs.declared.faults.FieldFault.{FieldFault}
use Rattle.fields_read.specs.declared.faults.FieldFault.TheVariants.{UnknownField, MissingField, FloatNumber, BadValue}
use Rattle.defs_read.specs.Allowed.{AreAllowed, HasPriorities, IsAllowed}
use Rattle.defs_read.proofs.NoCauses.{accepted, all_stand, later_cause, no_cause, no_consumer_cause, no_value_cause, own_cause, unmapped, untested}
use Rattle.defs_read.proofs.Named.{all_named, bytes_within, entries_within, key_within, queue_name}
use Rattle.defs_read.proofs.Apart.{consumers_apart, none_distinct, numbered_at, numbered_queues, queue_names_of, queues_apart}
use Rattle.defs_read.specs.Causes.{consumer_causes, consumers_fault, defs_causes, name_in, names_in, of_field, queue_causes, queues_fault}
use Rattle.defs_read.specs.Defined.{Defined, consumers_in, defined}
use Rattle.defs_read.specs.Tables.{later_fields, line_fields, type_named}
use Rattle.defs_read.specs.Values.{consumer_of, consumers_of, kind_by, queue_of, queues_of}
use Rattle.defs_read.specs.declared.defs.ConsumerDef.{ConsumerDef}
use Rattle.defs_read.specs.declared.defs.QueueDef.{QueueDef}
use Rattle.defs_read.specs.declared.faults.DefsFault.{DefsFault}
use Rattle.defs_read.specs.declared.faults.DefsFault.TheVariants.{TooManyConsumers}
use Rattle.defs_read.specs.declared.tables.QueueType.{QueueType}
use Rattle.defs_read.specs.declared.tables.QueueType.TheVariants.{Standard, Priority, Sorted, LastValue}

-- ---- consumers

length_names : (ds : Items) → length (names_in ds) ≡ count_items ds
length_names no_items = refl
length_names (item d ds) = ap suc (length_names ds)

length_consumers : (n : ℕ) (ds : Items) → length (consumers_of n ds) ≡ count_items ds
length_consumers n no_items = refl
length_consumers n (item d ds) = ap suc (length_consumers (n + 1) ds)

room : (names : List (List ℕ)) (d : Data) → first_of (consumer_causes names d) ≡ None → length names < 64
room names d none =
    let few : nat_le 64 (length names) ≡ false = untested (nat_le 64 (length names)) TooManyConsumers (no_cause (consumer_causes names d) 6 none) in
    grind (arith, nat_tests)

-- so many consumers find room behind these
consumers_fit : (names : List (List ℕ)) (ds : Items) → consumers_fault names ds ≡ None → length names ≤ 64 → length names + count_items ds ≤ 64
consumers_fit names no_items none within = omega arith
consumers_fit names (item d ds) none within =
    let here : length names < 64 = room names d (no_cause (first_of (consumer_causes names d) ∷ consumers_fault (names ++ name_in d ∷ []) ds ∷ []) 0 none) in
    let one_more : length (names ++ name_in d ∷ []) ≡ length names + 1 = length_push names (name_in d) in
    let later : length (names ++ name_in d ∷ []) + count_items ds ≤ 64 =
    consumers_fit (names ++ name_in d ∷ []) ds (no_cause (first_of (consumer_causes names d) ∷ consumers_fault (names ++ name_in d ∷ []) ds ∷ []) 1 none) (omega arith) in
    omega arith

numbers_below : (n most : ℕ) (ds : Items) → n + count_items ds ≤ most → All (λ c. c.number < most) (consumers_of n ds)
numbers_below n most no_items within = All-nil (λ (c : ConsumerDef). c.number < most)
numbers_below n most (item d ds) within = All-cons (λ (c : ConsumerDef). c.number < most) (consumer_of n d) (consumers_of (n + 1) ds) (omega arith) (numbers_below (n + 1) most ds (omega arith))

-- ---- queues

whole_within : (o : Option ℕ) → unwrap_or (option_map (λ n. nat_le 1 n && nat_le n 10) o) false ≡ true → (1 ≤ unwrap_or o 10) × (unwrap_or o 10 ≤ 10)
whole_within None good = cc
whole_within (Some n) good = (grind (arith, nat_tests), grind (arith, nat_tests))

priorities_within : (o : Option Data) → option_and_then (value_fault Priorities) o ≡ None
    → (1 ≤ unwrap_or (option_and_then as_u64 (option_and_then as_number o)) 10) × (unwrap_or (option_and_then as_u64 (option_and_then as_number o)) 10 ≤ 10)
priorities_within None none = (omega arith, omega arith)
priorities_within (Some v) none = whole_within (option_and_then as_u64 (as_number v)) (accepted (is_float_at Priorities v) (is_whole 1 10 v) none)

has_priorities : (t : QueueType) (d : Data) → values_fault (later_fields t) d ≡ None → HasPriorities (kind_by t d)
has_priorities Standard d none = tt
has_priorities Priority d none = priorities_within (value_at Priorities d) (no_cause (map (λ f. field_fault f d) (later_fields Priority)) 1 none)
has_priorities Sorted d none = tt
has_priorities LastValue d none = tt

-- a queue, and those behind it
module _ (queues consumers : List (List ℕ)) (d : Data) (ds : Items) (none : queues_fault queues consumers (item d ds) ≡ None) where
  own_room : (n : ℕ) → n ≡ length consumers → n ≤ 64 → n + count_items (items_at Consumers d) ≤ 64
  own_room n is within = rw is (consumers_fit consumers (items_at Consumers d) (no_consumer_cause queues consumers d (own_cause queues consumers d ds none)) (rw is at within))

  later_number : (n : ℕ) → n ≡ length consumers → n + count_items (items_at Consumers d) ≡ length (consumers ++ names_in (items_at Consumers d))
  later_number n is = omega (arith, length-append consumers (names_in (items_at Consumers d)), length_names (items_at Consumers d))

all_fit : (n : ℕ) (queues consumers : List (List ℕ)) (ds : Items) → queues_fault queues consumers ds ≡ None → n ≡ length consumers → n ≤ 64 → n + length (consumers_in (queues_of n ds)) ≤ 64
all_fit n queues consumers no_items none is within = omega arith
all_fit n queues consumers (item d ds) none is within =
    let list = items_at Consumers d in
    let later : (n + count_items list) + length (consumers_in (queues_of (n + count_items list) ds)) ≤ 64 =
    all_fit (n + count_items list) (queues ++ name_in d ∷ []) (consumers ++ names_in list) ds (later_cause queues consumers d ds none) (later_number queues consumers d ds none n is) (own_room queues consumers d ds none n is within) in
    omega (arith, length-append (consumers_of n list) (consumers_in (queues_of (n + count_items list) ds)), length_consumers n list)

allowed_queue : (n : ℕ) (queues consumers : List (List ℕ)) (d : Data) → first_of (queue_causes queues consumers d) ≡ None → length (consumers_of n (items_at Consumers d)) ≤ 64 → IsAllowed (queue_of n d)
allowed_queue n queues consumers d none few =
    let t = type_named (text_at Kind d) in
    let values = no_value_cause queues consumers d none in
    record {
      name = queue_name queues consumers d none;
      slips = record { consumers = few; priorities = has_priorities t d values };
      key = key_within queues consumers d none;
      entries = entries_within t d values;
      bytes = bytes_within t d values;
      named = all_named n consumers (items_at Consumers d) (no_consumer_cause queues consumers d none);
    }

each_allowed : (n : ℕ) (queues consumers : List (List ℕ)) (ds : Items) → queues_fault queues consumers ds ≡ None → n ≡ length consumers → n ≤ 64 → All IsAllowed (queues_of n ds)
each_allowed n queues consumers no_items none is within = All-nil IsAllowed
each_allowed n queues consumers (item d ds) none is within =
    let list = items_at Consumers d in
    let own : n + count_items list ≤ 64 = own_room queues consumers d ds none n is within in
    let few : length (consumers_of n list) ≤ 64 = omega (arith, length_consumers n list) in
    All-cons IsAllowed (queue_of n d) (queues_of (n + count_items list) ds)
    (allowed_queue n queues consumers d (own_cause queues consumers d ds none) few)
    (each_allowed (n + count_items list) (queues ++ name_in d ∷ []) (consumers ++ names_in list) ds (later_cause queues consumers d ds none) (later_number queues consumers d ds none n is) own)

all_numbers : (n most : ℕ) (ds : Items) → n + length (consumers_in (queues_of n ds)) ≤ most → All (λ c. c.number < most) (consumers_in (queues_of n ds))
all_numbers n most no_items within = All-nil (λ (c : ConsumerDef). c.number < most)
all_numbers n most (item d ds) within =
    let list = items_at Consumers d in
    let rest = consumers_in (queues_of (n + count_items list) ds) in
    let counted : length (consumers_of n list ++ rest) ≡ count_items list + length rest = length-append (consumers_of n list) rest ∙ ap (λ (k : ℕ). k + length rest) (length_consumers n list) in
    All-append (λ (c : ConsumerDef). c.number < most) (consumers_of n list) rest (numbers_below n most list (omega arith)) (all_numbers (n + count_items list) most ds (omega arith))

-- ---- the whole line

length_queues : (n : ℕ) (ds : Items) → length (queues_of n ds) ≡ count_items ds
length_queues n no_items = refl
length_queues n (item d ds) = ap suc (length_queues (n + count_items (items_at Consumers d)) ds)

list_within : (o : Option Items) → unwrap_or (option_map (λ ds. nat_le 1 (count_items ds) && nat_le (count_items ds) 16) o) false ≡ true
    → (1 ≤ count_items (unwrap_or o no_items)) × (count_items (unwrap_or o no_items) ≤ 16)
list_within None good = cc
list_within (Some ds) good = (grind (arith, nat_tests), grind (arith, nat_tests))

stands_within : (o : Option Data) → (not (is_some o) || false) ≡ false → option_and_then (value_fault Queues) o ≡ None
    → (1 ≤ count_items (unwrap_or (option_and_then as_array o) no_items)) × (count_items (unwrap_or (option_and_then as_array o) no_items) ≤ 16)
stands_within None stands none = cc
stands_within (Some v) stands none = list_within (as_array v) (accepted (is_float_at Queues v) (is_list_of 16 v) none)

queues_within : (d : Data) → first_of (defs_causes d) ≡ None → (1 ≤ count_items (items_at Queues d)) × (count_items (items_at Queues d) ≤ 16)
queues_within d none =
    stands_within (value_at Queues d) (all_stand line_fields line_fields d (no_cause (defs_causes d) 1 none)) (unmapped (field_fault Queues d) (no_cause (defs_causes d) 2 none))

pub allowed : (d : Data) (queues : List Defined) → first_of (defs_causes d) ≡ None → queues ≡ queues_of 0 (items_at Queues d) → AreAllowed queues
allowed d queues none told =
    let ds = items_at Queues d in
    let count : length queues ≡ count_items ds = ap length told ∙ length_queues 0 ds in
    let within = queues_within d none in
    let no_queue_cause : queues_fault [] [] ds ≡ None = no_cause (defs_causes d) 3 none in
    let fit : 0 + length (consumers_in (queues_of 0 ds)) ≤ 64 = all_fit 0 [] [] ds no_queue_cause refl (omega arith) in
    record {
      some = omega (arith, within.0);
      few = omega (arith, within.1);
      consumers = rw told (omega arith);
      numbers = rw told (all_numbers 0 64 ds fit);
      numbered = rw told (λ i c found. numbered_at 0 (consumers_in (queues_of 0 ds)) i c (numbered_queues 0 ds) found ∙ zero-add i);
      queue_names = rw told (rw (queue_names_of 0 ds) (queues_apart [] [] ds no_queue_cause none_distinct));
      consumer_names = rw told (consumers_apart 0 [] [] ds no_queue_cause none_distinct);
      each = rw told (each_allowed 0 [] [] ds no_queue_cause refl (omega arith));
    }

-- ---- the queue at a place

-- where queues are within their limits, so is the one at each place: what `slip` asks of it
pub allowed_at : (queues : List QueueDef) (place : ℕ) (q : QueueDef) → AreAllowed (map defined queues) → slice_get queues place ≡ Some q → IsAllowed (defined q)
allowed_at queues place q allowed found =
    let here : slice_get (map defined queues) place ≡ Some (defined q) = slice_get-map defined queues place ∙ ap (option_map defined) found in
    subst IsAllowed (get_or_from_slice_get (map defined queues) place (defined q) (defined q) here)
    (All-get_or IsAllowed (map defined queues) place (defined q) (slice_get_within (map defined queues) place (defined q) here) allowed.each)
