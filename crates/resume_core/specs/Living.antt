-- how what a journal holds goes on with its transactions
use Rattle.std.specs.Prelude.{◌≡◌, Bool, true, not, List, ◌++◌, filter}
use Rattle.journal_format.specs.declared.items.Item.{Item}
use Rattle.journal_format.specs.declared.items.Item.TheVariants.{Entered, Gone}
use Rattle.journal_format.specs.Spelling.{Txn}
use Rattle.recover_core.specs.Live.{is_gone, items_of, live}

-- an entry stays behind these items: they don't tell it gone
abbrev pub stays_behind : List Item → Item → Bool
stays_behind later (Entered q m) = not (is_gone q m.id later)
stays_behind later (Gone q id) = true

-- Behind more transactions those entries are live that were and that these don't tell gone, and then those that these leave.
abbrev pub LiveGoesOn : Type 0
LiveGoesOn = (A B : List Txn) → live (A ++ B) ≡ filter (stays_behind (items_of B)) (live A) ++ live B
