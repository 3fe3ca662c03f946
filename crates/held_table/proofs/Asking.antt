-- what a call asks, in what its pass has seen, holds in the state in which it is served
use Rattle.std.proofs.Common.{◌≡◌, ℕ, ◌+◌, ◌≤◌, ◌^◌, List, [], refl, sym, ap, ◌∙◌, subst, arith, Some, append-nil}
use mathlib.Core.List.{IsPrefix}
use Rattle.std.proofs.Math.Pow.{pow_mono}
use Rattle.queue_model.specs.declared.deeds.Deed.{Deed}
use Rattle.queue_model.specs.declared.queues.Queue.{Queue}
use Rattle.queue_model.specs.declared.queues.Reservation.{Reservation}
use Rattle.queue_model.specs.declared.rows.Slip.{Slip}
use Rattle.queue_model.specs.History.{after, Legal, own}
use Rattle.queue_model.specs.State.{reserved_by, entries, IsIn}
use Rattle.queue_model.specs.Table.{CanGive, FitsQueue, most_entries}
use Rattle.queue_model.proofs.Histories.{after-append, legal_rest}
use Rattle.queue_model.proofs.Owns.{own_rest}
use Rattle.queue_model.proofs.Stable.{held_row_stays, held_stays, reserved_stays, row_stays}
use Rattle.acts_core.specs.Asked.{last_on, Handed}
use Rattle.acts_core.specs.Calls.{Call, CallDepth, CallReserve, CallGiveBack, CallPut, CallNext, CallOldest, CallFind, CallLock, CallUnlock, CallRelease, CallSteal, CallDequeue, CallDelete}
use Rattle.acts_core.specs.Load.{Load}
use Rattle.acts_core.specs.Owed.{Has}
use Rattle.acts_core.specs.Serves.{CanCall, rows_of_call}
use Rattle.acts_core.proofs.Running.{lists_stay}
use Rattle.history_lock.specs.declared.view.View.{View}
use Rattle.held_table.specs.declared.view.Outset.{Outset}
use Rattle.held_table.specs.Sights.{Asks, Sits, sight_by}
use Rattle.held_table.specs.Tales.{wide, IsHistory}
use Rattle.held_table.specs.Views.{outset_in}
use Rattle.held_table.proofs.Costs.{MayReserve}
use Rattle.held_table.proofs.Ending.{left_there}
use Rattle.held_table.proofs.Wide.{PutFits}

-- A slip that fits fewer consumers fits more.
fits_wide : (n : ℕ) (slip : Slip) → n ≤ 64 → FitsQueue 1 n slip → FitsQueue 1 64 slip
fits_wide n slip few f = record { size = f.size; list = f.list; mask = (let m = f.mask in let p : 2 ^ n ≤ 2 ^ 64 = pow_mono few in omega (arith, m, p)) }

module _ (v : View Outset Deed) (h : ℕ) (p : List Deed) (sits : Sits v) (pre : IsPrefix v.seen p) (same : own h p ≡ own h v.seen) (now : IsHistory (outset_in v) p) (room : v.allowance + entries (after (outset_in v).opening p) ≤ most_entries) where
  o : Queue
  o = (outset_in v).opening

  abbrev q : Queue
  q = after (outset_in v).opening v.seen

  idle : own h pre.0 ≡ []
  idle = own_rest h v.seen p [] pre (same ∙ sym (append-nil (own h v.seen)))

  there : after (after (outset_in v).opening v.seen) pre.0 ≡ after (outset_in v).opening p
  there = sym (after-append (outset_in v).opening v.seen pre.0) ∙ ap (after (outset_in v).opening) pre.1

  rest : Legal (after (outset_in v).opening v.seen) pre.0
  rest = legal_rest (outset_in v).opening v.seen pre.0 (subst (Legal (outset_in v).opening) (sym pre.1) now.legal)

  reserved : reserved_by (after (outset_in v).opening p) h ≡ reserved_by (after (outset_in v).opening v.seen) h
  reserved = ap (λ (z : Queue). reserved_by z h) (sym there) ∙ reserved_stays q pre.0 h idle

  sizes : (ds : List Deed) → ((after (outset_in v).opening ds).lists ≡ 1) × ((after (outset_in v).opening ds).consumers ≡ (outset_in v).opening.consumers)
  sizes ds = let s = lists_stay (outset_in v).opening ds in (s.0 ∙ sits.lists, s.1)

  handed : (r : ℕ) (load : Load) → Handed q h r load → Handed (wide (after (outset_in v).opening p)) h r load
  handed r load x = record {
    row = x.row;
    found = subst (λ (z : Queue). Rattle.queue_model.specs.State.row_at z r ≡ Some x.row) there (held_row_stays q pre.0 h r x.row idle rest x.found x.held);
    held = x.held;
    id = x.id;
    size = x.size;
    content = x.content;
    origin = x.origin;
    count = x.count;
  }

  has_row : (r : ℕ) → Has q r → Has (after (outset_in v).opening p) r
  has_row r x = let y = row_stays q pre.0 r x.0 x.1 in subst (λ (z : Queue). Has z r) there (y.0, y.1)

  -- the call may be made of the one-thread queue that was taken
  pub may_now : (call : Call) → Asks (sight_by h v) call → CanCall (wide (after (outset_in v).opening p)) h call
  may_now CallDepth asks = tt
  may_now (CallReserve size) asks = (asks.0, let a = asks.1 in let e : entries (wide (after (outset_in v).opening p)) ≡ entries (after (outset_in v).opening p) = refl in omega (arith, a, e, room))
  may_now (CallGiveBack size) asks = subst (λ (x : Reservation). CanGive x size) (sym reserved) asks
  may_now (CallPut slip load) asks = record {
    fits = subst (λ (n : ℕ). FitsQueue n 64 slip) (sym (sizes p).0)
        (fits_wide (outset_in v).opening.consumers slip sits.few (subst (λ (x : ℕ × ℕ). FitsQueue x.0 x.1 slip) (λ i. ((sizes v.seen).0 i, (sizes v.seen).1 i)) asks.0.fits));
    reserved = subst (λ (x : Reservation). CanGive x slip.size) (sym reserved) asks.0.reserved;
    id = asks.0.id;
    size = asks.0.size;
  }
  may_now (CallNext c) asks = let low = sits.consumers c asks in let few = sits.few in omega (arith, low, few)
  may_now CallOldest asks = tt
  may_now (CallFind id) asks = tt
  may_now (CallLock r) asks = left_there (outset_in v).opening p h r asks.0 now.legal (ap (last_on r) same ∙ asks.1)
  may_now (CallUnlock r load) asks = handed r load asks
  may_now (CallRelease r load) asks = handed r load asks
  may_now (CallSteal r) asks = has_row r asks
  may_now (CallDequeue r) asks = let x = held_stays q pre.0 h r idle rest asks in subst (λ (z : Queue). IsIn z r (Rattle.queue_model.specs.declared.rows.RowState.TheVariants.Locked h)) there x
  may_now (CallDelete r) asks = (now.enders h r (ap (last_on r) same ∙ asks)).0

  -- the slip of a put fits the queue itself
  pub put_fits : (call : Call) → Asks (sight_by h v) call → PutFits (after (outset_in v).opening p).lists (after (outset_in v).opening p).consumers call
  put_fits (CallPut slip load) asks = subst (λ (x : ℕ × ℕ). FitsQueue x.0 x.1 slip) (λ i. (((sizes v.seen).0 ∙ sym (sizes p).0) i, ((sizes v.seen).1 ∙ sym (sizes p).1) i)) asks.0.fits
  put_fits CallDepth asks = tt
  put_fits (CallReserve size) asks = tt
  put_fits (CallGiveBack size) asks = tt
  put_fits (CallNext c) asks = tt
  put_fits CallOldest asks = tt
  put_fits (CallFind id) asks = tt
  put_fits (CallLock r) asks = tt
  put_fits (CallUnlock r load) asks = tt
  put_fits (CallRelease r load) asks = tt
  put_fits (CallSteal r) asks = tt
  put_fits (CallDequeue r) asks = tt
  put_fits (CallDelete r) asks = tt

-- what is asked of allowance and share
pub may_reserve : (h : ℕ) (v : View Outset Deed) (call : Call) → Asks (sight_by h v) call → MayReserve call v.allowance
may_reserve h v (CallReserve size) asks = asks.1
may_reserve h v call asks = tt

pub may_draw : (h : ℕ) (v : View Outset Deed) (call : Call) → Asks (sight_by h v) call → rows_of_call call ≤ v.share
may_draw h v (CallPut slip load) asks = let a = asks.1 in omega (arith, a)
may_draw h v call asks = omega arith
