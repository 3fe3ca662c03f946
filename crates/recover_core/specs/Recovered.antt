-- What is recovered of the bytes of a journal.
use Rattle.std.specs.Prelude.{◌≡◌, ℕ, List, length, map}
use Rattle.journal_format.specs.declared.items.Item.{Item}
use Rattle.journal_format.specs.declared.items.Item.TheVariants.{Entered}
use Rattle.journal_format.specs.Spelling.{Txn}
use Rattle.journal_format.specs.Journal.{IsJournal}
use Rattle.recover_core.specs.declared.kept.Kept.{Kept}
use Rattle.recover_core.specs.Live.{live}
use Rattle.recover_core.specs.Places.{founds, kept}

-- the bytes are a journal with so many transactions, and these entries are live, each with its places
pub record IsRecovered (bytes : List ℕ) (commits : ℕ) (entries : List Kept) : Type 0 where
  pub txns : List Txn
  pub journal : IsJournal bytes txns
  pub commits_are : commits ≡ length txns
  pub entries_are : entries ≡ kept (founds 16 journal.front.batches)

-- an entry without its places
abbrev pub item_of : Kept → Item
item_of k = Entered k.queue k.message

-- without their places the entries are those that the transactions leave
abbrev pub EntriesLive : Type 0
EntriesLive = (bytes : List ℕ) (commits : ℕ) (entries : List Kept) (r : IsRecovered bytes commits entries) → map item_of entries ≡ live r.txns
