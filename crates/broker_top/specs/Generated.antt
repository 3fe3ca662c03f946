-- a run of the script that a number makes, which writes nothing but its summary
use Rattle.std.specs.Prelude.{◌≡◌, ℕ, Some, List, [], ◌∷◌, codes, map, take, Result, Ok, Err, Vec}
use Rattle.std.specs.declared.alloc.Global.{Global}
use Rattle.byte_lists.specs.declared.NoMemory.{NoMemory}
use Rattle.acts_core.specs.declared.cargoes.RestEntry.{RestEntry}
use Rattle.defs_read.specs.Defined.{Defined}
use Rattle.gen_core.specs.Generated.{body_bytes, phases, queue}
use Rattle.script_read.specs.Phases.{Actors}
use Rattle.target_core.specs.Seats.{Seat, Seats}
use Rattle.txn_core.specs.declared.parcels.Parcel.{Parcel}
use Rattle.account_core.specs.Accounts.{Account, SameSeats}
use Rattle.account_core.specs.Phases.{ArePhases, nothing}
use Rattle.account_core.specs.Runs.{CameBack, Ran}
use Rattle.phase_core.specs.Phased.{Lefts}
use Rattle.broker_top.specs.Job.{Script}
use Rattle.broker_top.specs.OnePhase.{Leaves}
use Rattle.broker_top.specs.Phases.{RanTo}
use Rattle.broker_top.specs.Summary.{all_answers, all_bytes, answered, answers_in, counted, entries_after, is_ok, plus, summary}
use Rattle.broker_top.specs.declared.tally.Tally.{Tally}

-- the script that a number makes for so many messages
abbrev pub script_of : ℕ → ℕ → Script
script_of number count = record { defs = queue ∷ []; phases = phases number count }

-- Phases

-- The phase ran, this is its account, and its answers were counted too; or memory ran out before it began.
abbrev pub TalliesOne : Result (Vec (Vec (RestEntry Parcel) Global) Global) NoMemory
    → List Defined → Lefts → Actors → Seats → Seats → Tally → Tally → Type 0
TalliesOne (Ok left) defs lefts actors seats seats' t t' =
    (account : Account) × Leaves defs lefts actors seats seats' account left.items
    × (t' ≡ plus t (counted (answers_in account)))
TalliesOne (Err short) defs lefts actors seats seats' t t' = SameSeats seats seats'

-- The phases of a script ran, from empty queues on, and these are the counts of their accounts. The targets went from these
-- to those, but for the room that they have.
pub record Tallied (script : Script) (seats seats' : Seats) (t : Tally) (left : ℕ) : Type 0 where
  pub accounts : List Account
  pub after : Seats
  pub are_phases : ArePhases script.defs (nothing script.defs) seats script.phases accounts after
  pub same : SameSeats after seats'
  pub answers : t ≡ counted (all_answers accounts)
  pub entries : left ≡ entries_after script.defs accounts

-- all phases ran, and were counted; or some ran, and then memory ran out before the next
abbrev pub Tallies : Result (Tally × ℕ) NoMemory → Script → Seats → Seats → Type 0
Tallies (Ok counts) script seats seats' = Tallied script seats seats' counts.0 counts.1
Tallies (Err short) script seats seats' = (some : ℕ) × (text : List ℕ) × RanTo script some seats seats' text

-- The whole run

-- All phases of the script that the number makes ran, from empty queues on: there are accounts of them, the text is their
-- summary, and of the targets that were handed in, one for each consumer, those came back that were not closed. As many
-- messages were put as were asked for, with the bytes of those that are drawn.
pub record IsSummed (number count : ℕ) (text : List ℕ) (handed back : List Seat) : Type 0 where
  pub accounts : List Account
  pub seats : Seats
  pub are_phases : ArePhases (queue ∷ []) (nothing (queue ∷ [])) (map Some handed) (phases number count) accounts seats
  pub came : CameBack seats back
  pub puts : answered is_ok (all_answers accounts) ≡ count
  pub bytes : all_bytes accounts ≡ body_bytes number count
  pub told : text ≡ summary (queue ∷ []) number count accounts

-- some of them ran; then memory ran out, before the next or before the summary, and only that is told
pub record IsUnsummed (number count : ℕ) (text : List ℕ) (handed back : List Seat) : Type 0 where
  pub some : ℕ
  pub unwritten : List ℕ
  pub ran : Ran (queue ∷ []) (take some (phases number count)) handed back unwritten
  pub told : text ≡ codes "fault: memory\n"
