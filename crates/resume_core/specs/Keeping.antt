-- which live entries a queue goes on with: a last-value queue keeps the last one of each key
use Rattle.std.specs.Prelude.{ℕ, Bool, false, if◌then◌else◌, Option, Some, None, List, [], ◌∷◌}
use Rattle.std.specs.List.{list_any}
use Rattle.std.specs.Str.{bytes_eq}
use Rattle.defs_read.specs.Slips.{key_of}
use Rattle.defs_read.specs.declared.defs.QueueKind.{QueueKind}
use Rattle.defs_read.specs.declared.defs.QueueKind.TheVariants.{Standard, Priority, Sorted, LastValue}
use Rattle.recover_core.specs.declared.kept.Kept.{Kept}

-- the key is this text
abbrev pub is_key : List ℕ → Option (List ℕ) → Bool
is_key text None = false
is_key text (Some key) = bytes_eq text key

-- one of these entries has the key, which is one
abbrev pub has_key : QueueKind → Option (List ℕ) → List Kept → Bool
has_key kind None ks = false
has_key kind (Some text) ks = list_any (λ k. is_key text (key_of kind k.message)) ks

-- an entry with this key gives way to one of these, which came later
abbrev pub gives_way : QueueKind → Option (List ℕ) → List Kept → Bool
gives_way Standard key later = false
gives_way (Priority n) key later = false
gives_way (Sorted name) key later = false
gives_way (LastValue name) key later = has_key (LastValue name) key later

-- the entries that give way to none behind them, in their order
abbrev pub staying : QueueKind → List Kept → List Kept
staying kind [] = []
staying kind (k ∷ ks) = if gives_way kind (key_of kind k.message) ks then staying kind ks else k ∷ staying kind ks

-- and those that give way, in their order
abbrev pub giving_way : QueueKind → List Kept → List Kept
giving_way kind [] = []
giving_way kind (k ∷ ks) = if gives_way kind (key_of kind k.message) ks then k ∷ giving_way kind ks else giving_way kind ks
