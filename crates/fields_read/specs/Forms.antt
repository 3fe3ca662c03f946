-- what values may be: names, texts, whole numbers, lists, headers
use Rattle.std.specs.Prelude.{ℕ, ◌^◌, ◌==◌, ◌&&◌, ◌||◌, not, nat_le, List, length, Bool, true, false, Option, Some, None, is_some, option_map, option_and_then, unwrap_or, negsuc, suc, [], ◌∷◌}
use Rattle.std.specs.Ordering.{int_eq}
use Rattle.std.specs.List.{list_any, list_all}
use Rattle.std.specs.Str.{bytes_eq}
use Rattle.serde_json.specs.Data.{Data, Items, no_items, item, Members, no_members, member}
use Rattle.serde_json.specs.Find.{as_bool, as_number, as_str, as_array, as_object, as_i64, as_u64}

-- the first cause of these, in order
abbrev pub first_of : {A : Type 0} → List (Option A) → Option A
first_of [] = None
first_of (None ∷ causes) = first_of causes
first_of (Some cause ∷ causes) = Some cause

-- a byte from 0x21 to 0x7E that is not '#'
abbrev pub is_name_byte : ℕ → Bool
is_name_byte b = nat_le 33 b && (nat_le b 126 && not (b == 35))

-- a name of a queue, a consumer or an actor: 1 to 64 such bytes
abbrev pub is_name : List ℕ → Bool
is_name s = nat_le 1 (length s) && (nat_le (length s) 64 && list_all is_name_byte s)

-- whether the value is a text, and this holds of it
abbrev pub is_text_with : (List ℕ → Bool) → Data → Bool
is_text_with holds d = unwrap_or (option_map holds (as_str d)) false

-- a text of so many bytes
abbrev pub is_text_within : ℕ → ℕ → Data → Bool
is_text_within least most d = is_text_with (λ s. nat_le least (length s) && nat_le (length s) most) d

-- one of these texts
abbrev pub is_one_of : List (List ℕ) → Data → Bool
is_one_of texts d = is_text_with (λ s. list_any (bytes_eq s) texts) d

-- a whole number within these bounds
abbrev pub is_whole : ℕ → ℕ → Data → Bool
is_whole least most d = unwrap_or (option_map (λ n. nat_le least n && nat_le n most) (option_and_then as_u64 (as_number d))) false

-- the value is -1
abbrev pub is_minus_one : Data → Bool
is_minus_one d = unwrap_or (option_map (λ z. int_eq z (negsuc 0)) (option_and_then as_i64 (as_number d))) false

-- a limit of a queue: -1 for none, or 1 to 2 ^ 40
abbrev pub is_limit : Data → Bool
is_limit d = is_minus_one d || is_whole 1 (2 ^ 40) d

-- how many values a list has
abbrev pub count_items : Items → ℕ
count_items no_items = 0
count_items (item d ds) = suc (count_items ds)

-- a list of at least one value and at most so many
abbrev pub is_list_of : ℕ → Data → Bool
is_list_of most d = unwrap_or (option_map (λ ds. nat_le 1 (count_items ds) && nat_le (count_items ds) most) (as_array d)) false

-- whether this holds of each value of the members
abbrev pub all_members : (Data → Bool) → Members → Bool
all_members holds no_members = true
all_members holds (member k d ms) = holds d && all_members holds ms

-- whether this holds of a value of the members
abbrev pub any_member : (Data → Bool) → Members → Bool
any_member holds no_members = false
any_member holds (member k d ms) = holds d || any_member holds ms

-- the value of a header: a text, true or false, or a whole number within 64 bits with a sign
abbrev pub is_header : Data → Bool
is_header d = is_some (as_str d) || (is_some (as_bool d) || is_some (option_and_then as_i64 (as_number d)))

-- an object whose values are headers
abbrev pub are_headers : Data → Bool
are_headers d = unwrap_or (option_map (all_members is_header) (as_object d)) false
