-- what is told of a status
use Rattle.std.specs.Prelude.{◌≡◌, ℕ, ◌+◌, ◌≤◌, ◌⊎◌, Option, List, length, take}
use Rattle.outside_io.specs.Told.{Adds}
use Rattle.command_status.specs.declared.status.Status.{Status}
use Rattle.command_status.specs.declared.status.Status.TheVariants.{WriteFault}

-- The status's text was written, and the sink didn't fail. Or it failed once, and some front of the text that goes with
-- another status was written.
abbrev pub Tells : Status → Status → List ℕ → Option (List ℕ) → Option (List ℕ) → ℕ → ℕ → Type 0
Tells result status text written written' faults faults' =
    ((result ≡ status) × (faults' ≡ faults) × Adds written written' text)
    ⊎ ((result ≡ WriteFault) × (faults' ≡ faults + 1)
    × ((n : ℕ) × (n ≤ length text) × Adds written written' (take n text)))
