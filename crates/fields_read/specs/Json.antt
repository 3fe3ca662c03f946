-- the value that a line is as JSON (RFC 8259), as serde_json reads it
use Rattle.std.specs.Prelude.{ℕ, List, Bool, if◌then◌else◌, false, Option, None, option_map, unwrap_or}
use Rattle.std.specs.Str.{is_utf8}
use Rattle.serde_json.specs.Data.{Data}
use Rattle.serde_json.specs.Find.{as_number, is_float}
use Rattle.serde_json.specs.Read.{read}

-- none where the bytes are not UTF-8, or no JSON text
abbrev pub json_of : List ℕ → Option Data
json_of bytes = if is_utf8 bytes then read bytes else None

-- a number that is no whole number of 64 bits, signed or unsigned
abbrev pub is_float_number : Data → Bool
is_float_number d = unwrap_or (option_map is_float (as_number d)) false
