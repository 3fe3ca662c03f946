-- the phases of a script, one after the other
use Rattle.std.specs.Prelude.{◌≡◌, ℕ, ◌+◌, ◌≤◌, Option, List, Result, Ok, Err, length, take}
use Rattle.outside_io.specs.Told.{Adds}
use Rattle.target_core.specs.Seats.{Seats}
use Rattle.account_core.specs.Accounts.{Account, SameSeats}
use Rattle.account_core.specs.Phases.{ArePhases, nothing}
use Rattle.account_core.specs.Texts.{run_text}
use Rattle.broker_top.specs.Job.{Script}
use Rattle.broker_top.specs.declared.phases.Stopped.{Stopped}
use Rattle.broker_top.specs.declared.phases.Stopped.TheVariants as stopped

-- The first so many phases of a script ran, from empty queues on, and this is their text. The targets went from these to
-- those, but for the room that they have.
pub record RanTo (script : Script) (some : ℕ) (seats seats' : Seats) (text : List ℕ) : Type 0 where
  pub accounts : List Account
  pub after : Seats
  pub are_phases : ArePhases script.defs (nothing script.defs) seats (take some script.phases) accounts after
  pub same : SameSeats after seats'
  pub told : text ≡ run_text script.defs accounts

-- All phases ran and their text was written; or memory ran out before a phase, and the text of those before it was written;
-- or the sink failed, and some front of the text of the phases that ran was written.
abbrev pub RunsPhases : Result (Unit {0}) Stopped → Script → Seats → Seats → Option (List ℕ) → Option (List ℕ) → ℕ → ℕ → Type 0
RunsPhases (Ok done) script seats seats' written written' faults faults' =
    (text : List ℕ) × RanTo script (length script.phases) seats seats' text × Adds written written' text × (faults' ≡ faults)
RunsPhases (Err stopped.NoMemory) script seats seats' written written' faults faults' =
    (some : ℕ) × (text : List ℕ) × RanTo script some seats seats' text × Adds written written' text × (faults' ≡ faults)
RunsPhases (Err stopped.WriteFault) script seats seats' written written' faults faults' =
    (some : ℕ) × (text : List ℕ) × RanTo script some seats seats' text
    × ((n : ℕ) × (n ≤ length text) × Adds written written' (take n text)) × (faults' ≡ faults + 1)
