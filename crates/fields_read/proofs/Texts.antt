-- a line as JSON
use Rattle.std.proofs.Common.{◌≡◌, Some, None, Bool, true, false, List, ℕ, refl}
use Rattle.std.specs.Prelude.{if◌then◌else◌}
use Rattle.std.specs.Str.{is_utf8, IsUtf8}
use Rattle.std.proofs.lemmas.Str.{is_utf8-from_IsUtf8, IsUtf8-from_is_utf8}
use Rattle.serde_json.specs.Data.{Data}
use Rattle.serde_json.specs.Read.{read}
use Rattle.fields_read.specs.Json.{json_of}

pub json_from : (bytes : List ℕ) (d : Data) → IsUtf8 bytes × (read bytes ≡ Some d) → json_of bytes ≡ Some d
json_from bytes d is = rw (is_utf8-from_IsUtf8 bytes is.0) is.1

no_json_by : (bytes : List ℕ) (utf8 : Bool) → is_utf8 bytes ≡ utf8 → (IsUtf8 bytes → read bytes ≡ None) → (if utf8 then read bytes else None) ≡ None
no_json_by bytes true is none = none (IsUtf8-from_is_utf8 bytes is)
no_json_by bytes false is none = refl

pub no_json : (bytes : List ℕ) → (IsUtf8 bytes → read bytes ≡ None) → json_of bytes ≡ None
no_json bytes none = no_json_by bytes (is_utf8 bytes) refl none
