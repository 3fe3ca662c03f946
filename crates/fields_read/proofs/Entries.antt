-- the entries of an object, as its members; the items of a list, counted; fields in their order
use Rattle.std.proofs.Common.{◌≡◌, ◌<◌, ◌≤◌, ◌+◌, ◌∷◌, [], not, ℕ, suc, List, String, Global, Bool, false, Some, None, Ok, Err, length, drop, get_or, refl, ap, add-one, drop-cons, arith}
use Rattle.std.specs.Prelude.{Option, option_map, unwrap_or, string_bytes, nat_le}
use Rattle.std.specs.List.{list_any, list_all}
use Rattle.std.specs.Map.{keys_of, values_of}
use Rattle.std.proofs.lemmas.Bool.Decides.{nat_tests}
use Rattle.serde_json.specs.Data.{Data}
use Rattle.serde_json.specs.Find.{as_array, as_object}
use Rattle.serde_json.specs.View.{view, items_view, members_view}
use Rattle.serde_json.specs.declared.value.Value.{Value}
use Rattle.fields_read.specs.Forms.{any_member, all_members, count_items, is_list_of}
use Rattle.fields_read.specs.Faults.{any_unknown, is_named, passes_unless, field_fault, values_fault}
use Rattle.fields_read.specs.declared.fields.Field.{Field}
use Rattle.fields_read.specs.declared.faults.FieldFault.{FieldFault}

any_entry : (holds : Data → Bool) (es : List (String Global × Value)) → list_any (λ v. holds (view v)) (values_of es) ≡ any_member holds (members_view es)
any_entry holds [] = refl
any_entry holds (e ∷ es) = rw (any_entry holds es)

all_entries : (holds : Data → Bool) (es : List (String Global × Value)) → list_all (λ v. holds (view v)) (values_of es) ≡ all_members holds (members_view es)
all_entries holds [] = refl
all_entries holds (e ∷ es) = rw (all_entries holds es)

unknown_entry : (known : List Field) (es : List (String Global × Value)) → list_any (λ k. not (is_named (string_bytes k) known)) (keys_of es) ≡ any_unknown known (members_view es)
unknown_entry known [] = refl
unknown_entry known (e ∷ es) = rw (unknown_entry known es)

counted : (vs : List Value) → count_items (items_view vs) ≡ length vs
counted [] = refl
counted (v ∷ vs) = ap suc (counted vs)

-- what a test over the values of a map says of the object
pub any_of_object : (holds : Data → Bool) (es : List (String Global × Value)) (d : Data) → Some (members_view es) ≡ as_object d → list_any (λ v. holds (view v)) (values_of es) ≡ unwrap_or (option_map (any_member holds) (as_object d)) false
any_of_object holds es d is = rw (← is, any_entry holds es)

pub all_of_object : (holds : Data → Bool) (es : List (String Global × Value)) (d : Data) → Some (members_view es) ≡ as_object d → list_all (λ v. holds (view v)) (values_of es) ≡ unwrap_or (option_map (all_members holds) (as_object d)) false
all_of_object holds es d is = rw (← is, all_entries holds es)

pub unknown_of_object : (known : List Field) (es : List (String Global × Value)) (d : Data) → Some (members_view es) ≡ as_object d → list_any (λ k. not (is_named (string_bytes k) known)) (keys_of es) ≡ unwrap_or (option_map (any_unknown known) (as_object d)) false
unknown_of_object known es d is = rw (← is, unknown_entry known es)

pub list_within : (vs : List Value) (n : ℕ) (d : Data) (most : ℕ) → Some (items_view vs) ≡ as_array d → n ≡ length vs → 1 ≤ n → nat_le n most ≡ is_list_of most d
list_within vs n d most is count some = rw (← is, counted vs, ← count) (grind (arith, nat_tests))

-- a field with no cause is passed over
passes : (cause : Option FieldFault) → passes_unless cause ≡ Ok tt → cause ≡ None
passes None is = refl
passes (Some fault) is = cc

-- the first cause is told
stops : (cause : Option FieldFault) (fault : FieldFault) → passes_unless cause ≡ Err fault → cause ≡ Some fault
stops None fault is = cc
stops (Some other) fault is = cc

pub goes_on : (fields : List Field) (i : ℕ) (or : Field) (d : Data) → i < length fields → passes_unless (field_fault (get_or fields i or) d) ≡ Ok tt → values_fault (drop i fields) d ≡ values_fault (drop (i + 1) fields) d
goes_on fields i or d below passed = rw (drop-cons fields i or, passes (field_fault (get_or fields i or) d) passed, add-one) refl

pub ends : (fields : List Field) (i : ℕ) (or : Field) (d : Data) (fault : FieldFault) → i < length fields → passes_unless (field_fault (get_or fields i or) d) ≡ Err fault → values_fault (drop i fields) d ≡ Some fault
ends fields i or d fault below failed = rw (drop-cons fields i or, stops (field_fault (get_or fields i or) d) fault failed) refl
