-- a held queue and its passes, as the contracts of every queue see them
use Rattle.std.specs.Prelude.{◌≡◌, ℕ, ◌+◌, ◌<◌, ◌≤◌, false, [], length}
use mathlib.Core.List.{Mem}
use Rattle.std.proofs.Common.{arith}
use Rattle.queue_model.specs.declared.deeds.Deed.{Deed}
use Rattle.queue_model.specs.declared.rows.RowState.TheVariants.{Locked}
use Rattle.queue_model.specs.State.{reserved_by, IsIn}
use Rattle.queue_model.specs.Sound.{IsOpening}
use Rattle.queue_model.specs.Table.{CanGive, most_bytes}
use Rattle.acts_core.specs.Asked.{IsSightOf, HasLeft, HasDequeued, Handed, Enters}
use Rattle.acts_core.specs.Calls.{Call, CallDepth, CallReserve, CallGiveBack, CallPut, CallNext, CallOldest, CallFind, CallLock, CallUnlock, CallRelease, CallSteal, CallDequeue, CallDelete}
use Rattle.acts_core.specs.Owed.{Has}
use Rattle.acts_core.specs.Sight.{Kind, Build, Sight, known}
use Rattle.history_lock.specs.declared.view.View.{View}
use Rattle.held_table.specs.declared.pass.HeldPass.{HeldPass}
use Rattle.held_table.specs.declared.table.Held.{Held}
use Rattle.held_table.specs.declared.view.Outset.{Outset}
use Rattle.held_table.specs.Tales.{IsHistory}
use Rattle.held_table.specs.Views.{view_in, outset_in, rest_of}

abbrev pub view : HeldPass → View Outset Deed
view p = view_in p.badge.views

-- how the pass's queue began
abbrev pub outset : HeldPass → Outset
outset p = outset_in (view p)

-- what contracts see of a held queue of this kind: it has the rows of the opening and those of the spare at the beginning
abbrev pub build_by : {C Q R : Type 0} → Kind → Held C Q R → Build
build_by kind t = record { kind = kind; bells = false; rows = t.spare + t.entries }

-- what contracts see of a view, of this caller: the callers behind its own have ended
abbrev pub sight_by : ℕ → View Outset Deed → Sight
sight_by caller v = record {
  opening = (outset_in v).opening;
  caller = caller;
  consumers = v.consumers;
  allowance = v.allowance;
  share = v.share;
  ended = rest_of v.callers;
  made = v.made;
  seen = v.seen;
  shown = [];
  turns = v.turns;
}

-- what contracts see of a pass
abbrev pub sight : HeldPass → Sight
sight p = sight_by p.caller (view p)

-- The queue of the view began with an opening of one list and at most 64 consumers, and the view has seen a history.
pub record Sits (v : View Outset Deed) : Type 0 where
  pub opening : IsOpening (outset_in v).opening
  pub lists : (outset_in v).opening.lists ≡ 1
  pub few : (outset_in v).opening.consumers ≤ 64
  pub history : IsHistory (outset_in v) v.seen
  pub consumers : (c : ℕ) → Mem c v.consumers → c < (outset_in v).opening.consumers

-- the pass is one of this queue
pub record Serves {C Q R : Type 0} (t : Held C Q R) (p : HeldPass) : Type 0 where
  pub table : p.badge.table_id ≡ t.lock.table.shared.table_id
  pub rows : (outset p).rows ≡ t.spare + t.entries
  pub entries : length (outset p).opening.rows ≡ t.entries
  pub sits : Sits (view p)

-- what a call asks of the caller's pass, besides that its queue takes a key
abbrev pub Asks : Sight → Call → Type 0
Asks s CallDepth = Unit {0}
Asks s (CallReserve size) = (size ≤ most_bytes) × (0 < s.allowance)
Asks s (CallGiveBack size) = CanGive (reserved_by (known s) s.caller) size
Asks s (CallPut slip load) = Enters (known s) s.caller slip load × (0 < s.share)
Asks s (CallNext c) = Mem c s.consumers
Asks s CallOldest = Unit {0}
Asks s (CallFind id) = Unit {0}
Asks s (CallLock r) = HasLeft s.caller r s.seen
Asks s (CallUnlock r load) = Handed (known s) s.caller r load
Asks s (CallRelease r load) = Handed (known s) s.caller r load
Asks s (CallSteal r) = Has (known s) r
Asks s (CallDequeue r) = IsIn (known s) r (Locked s.caller)
Asks s (CallDelete r) = HasDequeued s.caller r s.seen

-- what holds of each pass of the queue
pub held_opens : {C Q R : Type 0} (kind : Kind) (t : Held C Q R) (p : HeldPass) → Serves t p → IsSightOf (build_by kind t) (sight p)
held_opens kind t p s = record { opening = s.sits.opening; rows = (let few = s.sits.history.rows in let same = s.rows in Prim.omega (arith, few, same)); caller = p.low }
