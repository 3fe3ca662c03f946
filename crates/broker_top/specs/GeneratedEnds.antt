-- how a run ends of the script that a number makes
use Rattle.std.specs.Prelude.{ℕ, ◌⊎◌, Option, List, codes, Result, Ok, Err}
use Rattle.byte_lists.specs.declared.NoMemory.{NoMemory as Memory}
use Rattle.gen_core.specs.Generated.{body_bytes}
use Rattle.target_core.specs.Seats.{Seat}
use Rattle.command_status.specs.Told.{Tells}
use Rattle.broker_top.specs.Generated.{IsSummed, IsUnsummed}
use Rattle.broker_top.specs.Summary.{summary_line}
use Rattle.command_status.specs.declared.status.Status.{Status}
use Rattle.command_status.specs.declared.status.Status.TheVariants.{Done, NoMemory}
use Rattle.broker_top.specs.declared.tally.Tally.{Tally}

-- the summary was told, or want of memory
abbrev pub TellsSummary : List ℕ → Status → Option (List ℕ) → Option (List ℕ) → ℕ → ℕ → Type 0
TellsSummary text result written written' faults faults' =
    Tells result Done text written written' faults faults'
    ⊎ Tells result NoMemory (codes "fault: memory\n") written written' faults faults'

-- the summary of these counts was told, with the bytes of the messages that are drawn; or want of memory
abbrev pub TellsTallied : Result (Tally × ℕ) Memory → ℕ → ℕ → Status → Option (List ℕ) → Option (List ℕ) → ℕ → ℕ → Type 0
TellsTallied (Ok counts) number count result written written' faults faults' =
    TellsSummary (summary_line number count counts.0 counts.1 (body_bytes number count)) result
    written written' faults faults'
TellsTallied (Err short) number count result written written' faults faults' =
    Tells result NoMemory (codes "fault: memory\n") written written' faults faults'

-- all phases ran, and their summary was told; or memory ran out, before a phase or before the summary, and that was told
abbrev pub EndsGenerated : ℕ → ℕ → Status → List Seat → List Seat → Option (List ℕ) → Option (List ℕ) → ℕ → ℕ → Type 0
EndsGenerated number count result handed back written written' faults faults' =
    ((text : List ℕ) × IsSummed number count text handed back × Tells result Done text written written' faults faults')
    ⊎ ((text : List ℕ) × IsUnsummed number count text handed back
    × Tells result NoMemory text written written' faults faults')
