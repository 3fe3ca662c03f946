-- the message that an object says
use Rattle.std.specs.Prelude.{◌||◌, List, [], ◌∷◌, length, Bool, false, nat_lt, unwrap_or, pos}
use Rattle.std.specs.List.{list_any}
use Rattle.serde_json.specs.Data.{Data, null, boolean, number, string, array, object, Members, no_members, member}
use Rattle.serde_json.specs.Find.{as_i64}
use Rattle.fields_read.specs.Fields.{text_at, number_at, truth_at, members_at}
use Rattle.fields_read.specs.declared.fields.Field.TheVariants.{Id, Persistent, Priority, Headers, Body}
use Rattle.byte_lists.specs.declared.limits.TheConstants.{MOST_BYTES}
use Rattle.message_core.specs.declared.limits.TheConstants.{LONGEST_NAME, MOST_HEADERS}
use Rattle.message_core.specs.Spelling.{Content, content, parts}
use Rattle.message_core.specs.declared.headers.Header.{Header}
use Rattle.message_core.specs.declared.headers.HeaderValue.{HeaderValue}
use Rattle.message_core.specs.declared.headers.HeaderValue.TheVariants as value

-- the value of a header; only texts, truth values and whole numbers are one
abbrev pub header_value : Data → HeaderValue
header_value (string s) = value.Text s
header_value (boolean b) = value.Bool b
header_value (number n) = value.Int (unwrap_or (as_i64 n) (pos 0))
header_value null = value.Bool false
header_value (array ds) = value.Bool false
header_value (object ms) = value.Bool false

-- the members as headers, in the byte order of their names
abbrev pub headers_of : Members → List Header
headers_of no_members = []
headers_of (member name d ms) = record { name = name; value = header_value d } ∷ headers_of ms

-- Not persistent, priority 4, no headers and no body where the object doesn't say otherwise. An id always stands.
abbrev pub message_of : Data → Content
message_of d =
    parts (unwrap_or (number_at Id d) 0) (unwrap_or (truth_at Persistent d) false) (unwrap_or (number_at Priority d) 4)
    (headers_of (members_at Headers d)) (unwrap_or (text_at Body d) [])

-- a header's name, the number of headers or the whole encoding passes its limit
abbrev pub is_too_long : Content → Bool
is_too_long m =
    list_any (λ h. nat_lt LONGEST_NAME (length h.name)) m.headers
    || (nat_lt MOST_HEADERS (length m.headers) || nat_lt MOST_BYTES (length (content m)))
