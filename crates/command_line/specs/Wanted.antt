-- what words are in the program's list, and what is read of them
use Rattle.std.specs.Prelude.{◌≡◌, ◌≤◌, ◌||◌, ℕ, Bool, Option, Some, None, List, is_some}
use Rattle.gen_core.specs.declared.phases.TheConstants.{MOST_MESSAGES}
use Rattle.command_line.specs.Tasks.{Task, asked, gen, run, select}
use Rattle.command_line.specs.JournalTasks.{JournalTask, asked_journal, init, recover}
use Rattle.command_line.specs.declared.asked.Asked.{Asked}
use Rattle.command_line.specs.declared.asked.Asked.TheVariants as asked_for

-- the words ask for something
abbrev pub is_listed : List (List ℕ) → Bool
is_listed words = is_some (asked words) || is_some (asked_journal words)

-- what was read is the task that was asked for, and there is no other; a count of messages is within its limits
abbrev pub Asks : Asked → Option Task → Option JournalTask → Type 0
Asks asked_for.Run task journal = (task ≡ Some run) × (journal ≡ None)
Asks (asked_for.Select text) task journal = (task ≡ Some (select text.now)) × (journal ≡ None)
Asks (asked_for.Generate number count) task journal = (task ≡ Some (gen number count)) × (journal ≡ None) × (1 ≤ count) × (count ≤ MOST_MESSAGES)
Asks (asked_for.Init path) task journal = (task ≡ None) × (journal ≡ Some (init path.now))
Asks (asked_for.Recover path) task journal = (task ≡ None) × (journal ≡ Some (recover path.now))
