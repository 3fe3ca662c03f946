-- phases, one after the other
use Rattle.std.specs.Prelude.{◌≡◌, ℕ, Some, List, [], ◌∷◌, map, slice_get}
use Rattle.queue_model.specs.declared.rows.Row.{Row}
use Rattle.defs_read.specs.Defined.{Defined}
use Rattle.script_read.specs.Phases.{Actors}
use Rattle.target_core.specs.Seats.{Seats}
use Rattle.account_core.specs.Accounts.{Account, SeatsGo}
use Rattle.account_core.specs.Carry.{Opens, handed_on}
use Rattle.account_core.specs.Played.{Played, IsPlayed}
use Rattle.account_core.specs.Stories.{Story, IsStory}

-- each queue opens with its rows
abbrev pub AllOpen : List Defined → List (List Row) → List Played → Type 0
AllOpen [] [] [] = Unit {0}
AllOpen (def ∷ defs) (rows ∷ others) (p ∷ queues) = Opens def rows p.plan × AllOpen defs others queues
AllOpen defs rows queues = ⊥

-- The account of a phase of these actors' lines, whose queues began with these rows, and in which the targets went
-- from these to those.
pub record IsPhase (defs : List Defined) (rows : List (List Row)) (actors : Actors) (a : Account)
    (seats seats' : Seats) : Type 0 where
  pub lines : map (λ s. (s.name, s.ops)) a.stories ≡ actors
  pub opens : AllOpen defs rows a.queues
  pub stories : (i : ℕ) (s : Story) → slice_get a.stories i ≡ Some s → IsStory defs s
  pub queues : (q : ℕ) (p : Played) → slice_get a.queues q ≡ Some p → IsPlayed q a.stories p
  pub targets : SeatsGo seats a.stories seats'

-- the accounts of these phases in order, each of which begins with what the one before it left
abbrev pub ArePhases : List Defined → List (List Row) → Seats → List Actors → List Account → Seats → Type 0
ArePhases defs rows seats [] [] seats' = seats' ≡ seats
ArePhases defs rows seats (actors ∷ phases) (a ∷ accounts) seats' =
    (mid : Seats) × IsPhase defs rows actors a seats mid
    × ArePhases defs (map handed_on a.queues) mid phases accounts seats'
ArePhases defs rows seats phases accounts seats' = ⊥

-- no rows for each queue: how a run begins
abbrev pub nothing : List Defined → List (List Row)
nothing defs = map (λ d. []) defs

-- the rows with which the next phase opens, where a run began with these and had these accounts
abbrev pub rows_after : List (List Row) → List Account → List (List Row)
rows_after rows [] = rows
rows_after rows (a ∷ accounts) = rows_after (map handed_on a.queues) accounts
