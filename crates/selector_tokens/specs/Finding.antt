-- What a reader of single tokens answers.
use Rattle.std.specs.Prelude.{◌≡◌, Result, Ok, Err, ⊤}
use Rattle.selector_tokens.specs.declared.found.Found.{Found}
use Rattle.selector_tokens.specs.declared.found.Unread.{Unread}
use Rattle.selector_tokens.specs.declared.found.Unread.TheVariants.{Fault, NoMemory}
use Rattle.selector_tokens.specs.Lexing.{First, found, fault}

-- It answers the first token and how many bytes that takes, or the fault where none can be read.
-- Want of memory may come in place of either.
abbrev pub Finds : Result Found Unread → First → Type 0
Finds (Ok f) first = first ≡ found f.token f.takes
Finds (Err (Fault kind)) first = first ≡ fault kind
Finds (Err NoMemory) first = ⊤
