-- one phase of a script, from the entries that the one before it left
use Rattle.std.specs.Prelude.{◌≡◌, ℕ, ◌+◌, ◌≤◌, Bool, false, List, Option, Result, Ok, Err, length, map, take, Vec}
use Rattle.std.specs.List.{AllByRecursion}
use Rattle.std.specs.declared.alloc.Global.{Global}
use Rattle.acts_core.specs.declared.cargoes.RestEntry.{RestEntry}
use Rattle.defs_read.specs.Allowed.{AreAllowed}
use Rattle.defs_read.specs.Defined.{Defined}
use Rattle.outside_io.specs.Told.{Adds}
use Rattle.script_read.specs.Allowed.{IsAllowedPhase, ops_in}
use Rattle.script_read.specs.Phases.{Actors}
use Rattle.target_core.specs.Seats.{Seats}
use Rattle.txn_core.specs.declared.parcels.Parcel.{Parcel}
use Rattle.account_core.specs.Accounts.{Account, SameSeats}
use Rattle.account_core.specs.Carry.{handed_on}
use Rattle.account_core.specs.Phases.{IsPhase, nothing}
use Rattle.account_core.specs.Texts.{account_text}
use Rattle.phase_queues.specs.Left.{AllMayStay, ids_left, many_left, rows_left}
use Rattle.phase_core.specs.Phased.{FewEntries, GainsPuts, IdsOnce, Lefts}
use Rattle.workers_core.specs.Drops.{ServesPolicies}
use Rattle.phase_actors.specs.Cast.{HasServedOps}
use Rattle.broker_top.specs.declared.phases.Stopped.{Stopped}
use Rattle.broker_top.specs.declared.phases.Stopped.TheVariants as stopped

-- no entries, in a list for each queue
pub record IsEmpty (defs : List Defined) (lefts : Lefts) : Type 0 where
  pub rows : rows_left lefts ≡ nothing defs
  pub stay : AllMayStay defs lefts
  pub no_ids : (q : ℕ) (test : ℕ → Bool) → ids_left q test lefts ≡ 0
  pub none : (q : ℕ) → many_left q lefts ≡ 0

-- these actors may play a phase over queues that open with these entries
pub record MayPlay (defs : List Defined) (lefts : Lefts) (actors : Actors) : Type 0 where
  pub allowed : AreAllowed defs
  pub policies : ServesPolicies defs
  pub phase : IsAllowedPhase defs false actors
  pub served : AllByRecursion HasServedOps actors
  pub stay : AllMayStay defs lefts
  pub once : IdsOnce lefts (ops_in actors)
  pub few : FewEntries lefts (ops_in actors)

-- The phase ran, and this is its account; and these entries are left of it, which are those that the account hands on.
pub record Leaves (defs : List Defined) (lefts : Lefts) (actors : Actors) (seats seats' : Seats) (account : Account) (lefts' : Lefts) : Type 0 where
  pub is_phase : IsPhase defs (rows_left lefts) actors account seats seats'
  pub left : rows_left lefts' ≡ map handed_on account.queues
  pub stay : AllMayStay defs lefts'
  pub gains : GainsPuts lefts (ops_in actors) lefts'

-- The phase ran and its text was written; or memory ran out before it began; or it ran, and the sink failed: some front of
-- its text was written.
abbrev pub RunsOne : Result (Vec (Vec (RestEntry Parcel) Global) Global) Stopped → List Defined → Lefts → Actors → Seats → Seats → Option (List ℕ) → Option (List ℕ) → ℕ → ℕ → Type 0
RunsOne (Ok left) defs lefts actors seats seats' written written' faults faults' =
    (account : Account) × Leaves defs lefts actors seats seats' account left.items
    × Adds written written' (account_text defs account) × (faults' ≡ faults)
RunsOne (Err stopped.NoMemory) defs lefts actors seats seats' written written' faults faults' =
    SameSeats seats seats' × (written' ≡ written) × (faults' ≡ faults)
RunsOne (Err stopped.WriteFault) defs lefts actors seats seats' written written' faults faults' =
    (account : Account) × IsPhase defs (rows_left lefts) actors account seats seats'
    × ((n : ℕ) × (n ≤ length (account_text defs account)) × Adds written written' (take n (account_text defs account)))
    × (faults' ≡ faults + 1)
