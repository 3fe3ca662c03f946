-- the headers of a message, and what is too long
use Rattle.std.proofs.Common.{◌≡◌, ℕ, ◌<◌, ◌≤◌, List, [], ◌∷◌, ◌++◌, length, map, Bool, true, false, cond, Option, Some, Ok, Err, String, Global, nat_lt, string_cmp, string_bytes, get_or, inl, inr, true≢false, refl, sym, ap, ◌∙◌, arith}
use Rattle.std.specs.Prelude.{◌||◌, slice_get, unwrap_or}
use Rattle.std.specs.List.{IsDistinct, AllByRecursion}
use Rattle.std.specs.List.Sorted.{IsStrictlySortedBy}
use Rattle.std.specs.Map.{keys_of}
use Rattle.std.specs.Ordering.{eq_by_cmp}
use Rattle.std.specs.Str.{bytes_eq}
use Rattle.std.proofs.lemmas.Bool.Decides.{nat_tests}
use Rattle.std.proofs.lemmas.List.{map-append}
use Rattle.std.proofs.lemmas.List.Folds.{list_any_none, list_any_at}
use Rattle.std.proofs.lemmas.Option.{slice_get-get_or}
use Rattle.std.proofs.lemmas.Slice.Eq.{bytes_eq-Decides}
use Rattle.std.proofs.lemmas.Map.Keys.{IsDistinct-from_sorted, apart_from_distinct}
use Rattle.std.proofs.lemmas.Map.Text.{is_eq-slice_cmp}
use Rattle.serde_json.specs.Data.{Data, Members, null, boolean, number, string, array, object, no_members}
use Rattle.serde_json.specs.Find.{get, get_member, as_object}
use Rattle.serde_json.specs.View.{view, members_view}
use Rattle.serde_json.specs.declared.value.Value.{Value}
use Rattle.fields_read.specs.Fields.{number_at, truth_at, text_at, members_at}
use Rattle.fields_read.specs.declared.fields.Field.TheVariants.{Id, Persistent, Headers, Body}
use Rattle.message_core.specs.declared.headers.Header.{Header}
use Rattle.message_core.specs.Spelling.{Content, content, names, parts, IsMessage}
use Rattle.message_core.specs.Making.{IsTooLong, IsRefused}
use Rattle.message_core.specs.declared.faults.MessageFault.{MessageFault}
use Rattle.message_core.specs.declared.faults.MessageFault.TheVariants.{BadPriority, DoubleHeader, NoMemory}
use Rattle.message_core.specs.declared.faults.MessageFault.TheVariants as fault
use Rattle.message_core.specs.Names.{HasDouble}
use Rattle.script_read.specs.Messages.{header_value, headers_of, message_of, is_too_long}
use Rattle.script_read.specs.Parts.{content_said, of_message, priority_in}
use Rattle.script_read.specs.Reading.{Gives}

-- ---- headers

-- the header of an entry
abbrev pub header_of : String Global × Value → Header
header_of e = record { name = string_bytes e.0; value = header_value (view e.1) }

pub headers_are : (es : List (String Global × Value)) → map header_of es ≡ headers_of (members_view es)
headers_are [] = refl
headers_are (e ∷ es) = ap (λ (hs : List Header). header_of e ∷ hs) (headers_are es)

apart : (k : String Global) (es : List (String Global × Value)) → AllByRecursion (λ y. eq_by_cmp string_cmp k y ≡ false) (keys_of es) → AllByRecursion (λ y. bytes_eq (string_bytes k) y ≡ false) (names (map header_of es))
apart k [] is = tt
apart k (e ∷ es) is = (sym (is_eq-slice_cmp (string_bytes k) (string_bytes e.0)) ∙ is.0, apart k es is.1)

distinct_names : (es : List (String Global × Value)) → IsDistinct (eq_by_cmp string_cmp) (keys_of es) → IsDistinct bytes_eq (names (map header_of es))
unfolding IsDistinct
distinct_names [] is = tt
distinct_names (e ∷ es) is = (apart e.0 es is.0, distinct_names es is.1)

-- keys in order give headers with distinct names
pub names_distinct : (es : List (String Global × Value)) → IsStrictlySortedBy string_cmp (keys_of es) → IsDistinct bytes_eq (names (map header_of es))
names_distinct es ordered = distinct_names es (IsDistinct-from_sorted string_cmp (keys_of es) ordered)

-- one header more
pub one_more : (hs more : List Header) (es : List (String Global × Value)) (e : String Global × Value) (h : Header) → hs ≡ map header_of es → more ≡ hs ++ h ∷ [] → h.name ≡ string_bytes e.0 → h.value ≡ header_value (view e.1) → more ≡ map header_of (es ++ e ∷ [])
one_more hs more es e h so_far pushed name value = rw (pushed, so_far, map-append header_of es (e ∷ []), ← name, ← value) refl

-- ---- fields of an object

get_of : (k : List ℕ) (d : Data) → get k d ≡ get_member k (unwrap_or (as_object d) no_members)
get_of k null = refl
get_of k (boolean b) = refl
get_of k (number n) = refl
get_of k (string s) = refl
get_of k (array ds) = refl
get_of k (object ms) = refl

-- ---- what is too long

test_false : (a n : ℕ) → n ≤ a → nat_lt a n ≡ false
test_false a n le = grind (arith, nat_tests)

test_true : (a n : ℕ) → a < n → nat_lt a n ≡ true
test_true a n lt = grind (arith, nat_tests)

or_false : (a b : Bool) → a ≡ false → b ≡ false → (a || b) ≡ false
or_false true b p q = cc
or_false false b p q = q

or_left : (a b : Bool) → a ≡ true → (a || b) ≡ true
or_left true b p = refl
or_left false b p = cc

or_right : (a b : Bool) → b ≡ true → (a || b) ≡ true
or_right true b p = refl
or_right false b p = p

pub not_too_long : (m : Content) → IsMessage m → is_too_long m ≡ false
not_too_long m is =
    or_false _ _ (list_any_none (λ h. nat_lt 255 (length h.name)) m.headers (λ k d lt. test_false 255 (length (get_or m.headers k d).name) (is.headers k d lt).short))
    (or_false _ _ (test_false 65535 (length m.headers) is.few) (test_false 1048576 (length (content m)) is.short))

pub too_long : (m : Content) → IsTooLong m → is_too_long m ≡ true
too_long m (inl (k, h, lt, at, long)) = or_left _ _ (list_any_at (λ h. nat_lt 255 (length h.name)) m.headers k h lt (rw at (test_true 255 (length h.name) long)))
too_long m (inr (inl many)) = or_right _ _ (or_left _ _ (test_true 65535 (length m.headers) many))
too_long m (inr (inr long)) = or_right _ _ (or_right _ _ (test_true 1048576 (length (content m)) long))

no_double : (ns : List (List ℕ)) → IsDistinct bytes_eq ns → HasDouble ns → ⊥
no_double ns distinct (i, j, below, inside, same) =
    let here : slice_get ns i ≡ Some (get_or ns i []) = slice_get-get_or ns i [] (omega (arith, below, inside)) in
    let there : slice_get ns j ≡ Some (get_or ns j []) = slice_get-get_or ns j [] inside in
    let equal : get_or ns i [] ≡ get_or ns j [] = cc (here, there, same) in
    true≢false (sym ((bytes_eq-Decides (get_or ns i []) (get_or ns j [])).1 equal) ∙ apart_from_distinct bytes_eq ns i j [] distinct below inside)

-- what was made is what was said
pub made_is : (m made : Content) → made ≡ m → IsMessage made → content_said m ≡ Ok made
made_is m made same is = rw (← same, not_too_long made is) refl

-- a refusal of parts that have a right priority and distinct names
pub refused_is : (m : Content) (fault : MessageFault) → m.priority ≤ 9 → IsDistinct bytes_eq (names m.headers) → IsRefused fault m → Gives (Err (of_message fault)) (content_said m)
refused_is m BadPriority low distinct refused = absurd (omega (arith, low, refused))
refused_is m DoubleHeader low distinct refused = absurd (no_double (names m.headers) distinct refused.1)
refused_is m fault.TooLong low distinct refused = rw (too_long m refused.2) refl
refused_is m NoMemory low distinct refused = tt

-- the parts of what was said
pub parts_are : (d : Data) (id : ℕ) (persistent : Bool) (priority : ℕ) (headers : List Header) (body : List ℕ)
    → id ≡ unwrap_or (number_at Id d) 0 → persistent ≡ unwrap_or (truth_at Persistent d) false → priority ≡ priority_in d → headers ≡ headers_of (members_at Headers d) → body ≡ unwrap_or (text_at Body d) []
    → parts id persistent priority headers body ≡ message_of d
parts_are d id persistent priority headers body a b c e f = rw (a, b, c, e, f) refl

-- what another name has stays
pub kept_at : (same : Bool) (w old : Option Value) → same ≡ false → cond same w old ≡ old
kept_at true w old is = cc
kept_at false w old is = refl

-- what stands in the members of an object stands in it
pub at_field : (k : List ℕ) (d : Data) (ms : Members) → ms ≡ unwrap_or (as_object d) no_members → get_member k ms ≡ get k d
at_field k d ms is = rw is (sym (get_of k d))
