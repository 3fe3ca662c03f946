-- live entries, and the queues that they are of
use Rattle.std.specs.Prelude.{ℕ, ◌+◌, ◌==◌, ◌&&◌, if◌then◌else◌, Bool, false, Option, Some, None, is_some, List, [], ◌∷◌, filter}
use Rattle.std.specs.Str.{bytes_eq}
use Rattle.defs_read.specs.Defined.{Defined}
use Rattle.recover_core.specs.declared.kept.Kept.{Kept}

-- the number of the first queue of this name, in the order of definition, where the first of these queues has the number n
abbrev pub number_from : ℕ → List ℕ → List Defined → Option ℕ
number_from n name [] = None
number_from n name (def ∷ defs) = if bytes_eq def.name name then Some n else number_from (n + 1) name defs

-- the number of a live entry's queue; none where it isn't defined
abbrev pub number_of : List Defined → Kept → Option ℕ
number_of defs k = number_from 0 k.queue defs

-- a live entry's queue is defined
abbrev pub has_queue : List Defined → Kept → Bool
has_queue defs k = is_some (number_of defs k)

-- it is this number
abbrev pub is_number : ℕ → Option ℕ → Bool
is_number q None = false
is_number q (Some n) = n == q

-- a live entry is of queue q
abbrev pub is_of : List Defined → ℕ → Kept → Bool
is_of defs q k = is_number q (number_of defs k)

-- the live entries of queue q, in their order
abbrev pub live_in : List Defined → ℕ → List Kept → List Kept
live_in defs q live = filter (is_of defs q) live

-- a live entry is of queue q and has this id
abbrev pub lives_as : List Defined → ℕ → ℕ → Kept → Bool
lives_as defs q id k = is_of defs q k && (k.message.id == id)
