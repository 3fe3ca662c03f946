-- how many bytes the transactions of an actor's lines may take
use Rattle.std.specs.Prelude.{ℕ, ◌+◌, ◌≤◌, min, if◌then◌else◌, List, length}
use Rattle.std.specs.List.{sum_by}
use Rattle.message_core.specs.Spelling.{Content}
use Rattle.journal_format.specs.declared.items.Item.TheVariants.{Entered, Gone}
use Rattle.journal_format.specs.declared.limits.TheConstants.{MOST_TXN_BYTES}
use Rattle.journal_format.specs.Filled.{Filled}
use Rattle.journal_format.specs.Spelling.{Txn, item_bytes}
use Rattle.script_read.specs.declared.lines.Op.{Op}
use Rattle.script_read.specs.declared.lines.What.{What}
use Rattle.script_read.specs.declared.lines.What.TheVariants.{Put, Take, Close, Ack, Release, Lock, Unlock, Steal, Begin, Commit, Rollback}
use Rattle.stage_core.specs.Items.{name_at}
use Rattle.stage_core.specs.Staging.{bytes_of}

-- the greatest number of bytes of a transaction
abbrev pub most_bytes : ℕ
most_bytes = MOST_TXN_BYTES

-- how many bytes say that an entry is gone from a queue of this name
abbrev pub gone_bytes : List ℕ → ℕ
gone_bytes name = length (item_bytes (Gone name 0))

-- and that a message entered it, or that an entry went that the put displaced
abbrev pub put_bytes : List ℕ → Content → ℕ
put_bytes name m = if m.persistent then length (item_bytes (Entered name m)) else gone_bytes name

-- how many bytes the items of a line may have
abbrev pub line_bytes : List (List ℕ) → What → ℕ
line_bytes names (Put q m) = put_bytes (name_at names q) m
line_bytes names (Ack q id) = gone_bytes (name_at names q)
line_bytes names (Release q id) = gone_bytes (name_at names q)
line_bytes names (Take c) = 0
line_bytes names (Close c) = 0
line_bytes names (Lock q id) = 0
line_bytes names (Unlock q id) = 0
line_bytes names (Steal q id) = 0
line_bytes names Begin = 0
line_bytes names Commit = 0
line_bytes names Rollback = 0

-- how many the items of all these lines may have
abbrev pub lines_bytes : List (List ℕ) → List Op → ℕ
lines_bytes names ops = sum_by (λ op. line_bytes names op.what) ops

-- the room that is taken for them: no transaction has more bytes than the greatest number
abbrev pub room_for : List (List ℕ) → List Op → ℕ
room_for names ops = min (lines_bytes names ops) most_bytes

-- the transaction has room for what these lines may add, or for all that a transaction may have
abbrev pub KeepsRoom : List (List ℕ) → Filled → List Op → Type 0
KeepsRoom names txn ops = min (bytes_of txn.items + lines_bytes names ops) most_bytes ≤ bytes_of txn.items + txn.room

-- the greatest number of bytes of a transaction for whose items so many are taken
abbrev pub each_for : ℕ → ℕ
each_for room = min (room + 4) most_bytes

-- what the transaction has, and what these lines may add, is no more than all lines may add
abbrev pub Spends : List (List ℕ) → List Op → Txn → List Op → Type 0
Spends names all items ops = bytes_of items + lines_bytes names ops ≤ lines_bytes names all
