-- what is told of what a journal still holds
use Rattle.std.specs.Prelude.{◌≡◌, ℕ, List, [], ◌++◌, length, codes, Option, IfSome}
use Rattle.std.specs.List.{flat_map}
use Rattle.std.specs.Fmt.{decimal}
use Rattle.journal_format.specs.declared.items.Item.{Item}
use Rattle.journal_format.specs.declared.items.Item.TheVariants.{Entered, Gone}
use Rattle.journal_format.specs.Spelling.{Txn}
use Rattle.journal_format.specs.Journal.{IsJournal}
use Rattle.recover_core.specs.Live.{live}
use Rattle.recover_core.specs.declared.kept.Kept.{Kept}

-- the line of an entry, by its queue and its id
abbrev pub entry_line : List ℕ → ℕ → List ℕ
entry_line queue id = codes "entry " ++ (queue ++ (codes " " ++ (decimal id ++ codes "\n")))

-- the line of an item that put an entry; one that took an entry has none
abbrev pub item_line : Item → List ℕ
item_line (Entered queue message) = entry_line queue message.id
item_line (Gone queue id) = []

-- the line that counts commits and entries
abbrev pub counts_line : ℕ → ℕ → List ℕ
counts_line commits entries = codes "commits " ++ (decimal commits ++ (codes " entries " ++ (decimal entries ++ codes "\n")))

-- the lines of the entries that transactions leave, in order, and the counts
abbrev pub live_text : List Txn → List ℕ
live_text txns = flat_map item_line (live txns) ++ counts_line (length txns) (length (live txns))

-- the bytes that a read gives are a journal, and the text tells what it still holds
pub record IsRecovery (text : List ℕ) (seen : Option (List ℕ)) : Type 0 where
  pub bytes : List ℕ
  pub read : IfSome seen (λ b. bytes ≡ b)
  pub txns : List Txn
  pub journal : IsJournal bytes txns
  pub told : text ≡ live_text txns

-- the line of an entry that was recovered
abbrev pub kept_line : Kept → List ℕ
kept_line k = entry_line k.queue k.message.id

-- the lines of the entries that were recovered, in order, and the counts
abbrev pub recovered_text : ℕ → List Kept → List ℕ
recovered_text commits entries = flat_map kept_line entries ++ counts_line commits (length entries)
