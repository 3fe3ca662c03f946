-- What a commit on the desk answers.
use Rattle.std.specs.Prelude.{◌≡◌, ℕ, ◌+◌, min, Result, Ok, Err}
use Rattle.journal_format.specs.declared.faults.DeviceFault.{DeviceFault}
use Rattle.outside_io.specs.Counts.{last_count}
use Rattle.commit_table.specs.declared.answers.Settled.{Settled}
use Rattle.commit_table.specs.declared.answers.Settled.TheVariants.{Stored, Failed}

-- a receipt has the number of commits before, and the place behind the gate
abbrev pub IsReceipt : Settled → ℕ → ℕ → Type 0
IsReceipt (Stored receipt) count gate = (receipt.ticket ≡ count) × (receipt.at ≡ min (gate + 13) last_count)
IsReceipt Failed count gate = Unit {0}

-- what the journal's answer makes of a ticket
abbrev pub settlement : Result ℕ DeviceFault → ℕ → Settled
settlement (Ok at) ticket = Stored (record { ticket = ticket; at = at })
settlement (Err e) ticket = Failed
