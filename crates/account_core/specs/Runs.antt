-- some phases of a script, as a call that runs them leaves the world
use Rattle.std.specs.Prelude.{◌≡◌, ℕ, Some, List, [], map}
use Rattle.defs_read.specs.Defined.{Defined}
use Rattle.script_read.specs.Phases.{Actors}
use Rattle.target_core.specs.Seats.{Seat, Seats, standing}
use Rattle.account_core.specs.Accounts.{Account, SameSeats}
use Rattle.account_core.specs.Phases.{ArePhases, nothing}
use Rattle.account_core.specs.Texts.{run_text}

-- The targets in these places came back, by consumer number. How much room they have is their own affair.
pub record CameBack (seats : Seats) (back : List Seat) : Type 0 where
  pub left : Seats
  pub same : SameSeats seats left
  pub came : back ≡ standing left

-- These phases ran, from empty queues on: there are accounts of them, this is their text, and of the targets that
-- were handed in, one for each consumer, those came back that were not closed.
pub record Ran (defs : List Defined) (phases : List Actors) (handed back : List Seat) (text : List ℕ) : Type 0 where
  pub accounts : List Account
  pub seats : Seats
  pub are_phases : ArePhases defs (nothing defs) (map Some handed) phases accounts seats
  pub came : CameBack seats back
  pub told : text ≡ run_text defs accounts

-- where no phase ran nothing is told, and all targets come back
abbrev pub NoneRan : Type 0
NoneRan =
    (defs : List Defined) (handed back : List Seat) (text : List ℕ) → Ran defs [] handed back text
    → (text ≡ []) × CameBack (map Some handed) back
