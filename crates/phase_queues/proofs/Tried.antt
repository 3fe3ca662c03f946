-- what tests ask of a queue of three lists
use Rattle.std.proofs.Common.{◌≡◌, ℕ, zero, suc, ◌<◌, List, [], ◌∷◌, get_or, Some, refl, sym, ◌∙◌, subst, arith}
use Rattle.std.specs.Prelude.{slice_get, slice_index}
use Rattle.std.specs.List.{IsDistinct}
use mathlib.Core.List.{Mem, mem-cons_self}
use Rattle.queue_model.specs.declared.deeds.Deed.{Deed}
use Rattle.queue_model.specs.declared.queues.Queue.{Queue}
use Rattle.queue_model.specs.declared.rows.Row.{Row}
use Rattle.queue_model.specs.declared.rows.RowState.TheVariants.{Available, Locked, Dequeued}
use Rattle.queue_model.specs.History.{after, Legal}
use Rattle.queue_model.specs.Sound.{IsOpening}
use Rattle.queue_model.specs.State.{is_row}
use Rattle.queue_model.proofs.KeyedLemmas.{all-find}
use Rattle.defs_read.specs.Allowed.{AreAllowed, IsAllowed}
use Rattle.defs_read.specs.Defined.{Defined}
use Rattle.entry_table.specs.Resting.{Settled}
use Rattle.any_queue.specs.declared.kinds.AnyPass.{AnyPass}
use Rattle.any_queue.specs.declared.kinds.AnyQueue.{AnyQueue}
use Rattle.any_queue.specs.Kinds.{any_opens, sight_in}
use Rattle.any_queue.specs.Parting.{IsLast}
use Rattle.txn_core.specs.declared.parcels.Parcel.{Parcel}
use Rattle.phase_queues.specs.Closed.{AreLast}
use Rattle.phase_queues.specs.Left.{Remains}
use Rattle.phase_queues.specs.Opened.{AreOpened, IsNewBoss}
use Rattle.phase_queues.specs.Tried.{three_lists}
use Rattle.phase_queues.proofs.Places.{get_low}
use Rattle.phase_queues.proofs.Starting.{get_some}

-- the definition is within its limits
pub allowed : AreAllowed (three_lists ∷ [])
unfolding IsDistinct
allowed = record {
  some = omega arith;
  few = omega arith;
  consumers = omega arith;
  numbers = λ k d low. absurd (omega (arith, low));
  numbered = λ i c e. absurd (cc);
  queue_names = (tt, tt);
  consumer_names = tt;
  each = λ k d low. one k d low;
} where
  one : (k : ℕ) (d : Defined) → k < 1 → IsAllowed (get_or (three_lists ∷ []) k d)
  one zero d low = record {
    name = refl;
    slips = record { consumers = omega arith; priorities = (omega arith, omega arith) };
    key = tt;
    entries = tt;
    bytes = tt;
    named = λ k d low. absurd (omega (arith, low));
  }
  one (suc k) d low = absurd (omega (arith, low))

-- of a queue in which nothing happened the boss's pass is the last
settled : (o : Queue) (ds : List Deed) → IsOpening o → ds ≡ [] → Settled (after o ds)
settled o ds opening none = subst (λ (z : List Deed). Settled (after o z)) (sym none) rests where
  rests : Settled o
  rests r x e =
      let free : x.state ≡ Available = all-find (λ (y : Row). y.state ≡ Available) (is_row r) o.rows x opening.available e in
      ((λ gone. let bad : Available ≡ Dequeued = sym free ∙ gone in absurd (cc)), λ h held. let bad : Available ≡ Locked h = sym free ∙ held in absurd (cc))

pub new_last : {R : Type 0} (defs : List Defined) (lefts : List Remains) (puts : List ℕ) (queues : List (AnyQueue Parcel R)) (bosses : List AnyPass) → AreOpened defs lefts puts queues bosses → AreLast bosses
new_last defs lefts puts queues bosses o = record { last = last; legal = legal } where
  new : (q : ℕ) (boss : AnyPass) → slice_get bosses q ≡ Some boss → (def : Defined) × IsNewBoss def (slice_index puts q) (sight_in boss)
  new q boss e =
      let low = get_low bosses q boss e in
      let many = o.passes in
      let def = get_some defs q (omega (arith, low, many)) in
      (def.0, o.new q def.0 boss def.1 e)

  last : (q : ℕ) (boss : AnyPass) → slice_get bosses q ≡ Some boss → IsLast (sight_in boss)
  last q boss e =
      let n = (new q boss e).1 in
      let low = get_low bosses q boss e in
      let many = o.passes in
      let also = o.as_many in
      let queue = get_some queues q (omega (arith, low, many, also)) in
      record {
        boss = n.caller;
        every = λ k few. subst (λ (h : ℕ). Mem h ((sight_in boss).caller ∷ (sight_in boss).ended)) (n.caller ∙ (let made = n.made in omega (arith, few, made))) mem-cons_self;
        settled = settled (sight_in boss).opening (sight_in boss).seen (any_opens queue.0 boss (o.serves q queue.0 boss queue.1 e)).opening n.seen;
      }

  legal : (q : ℕ) (boss : AnyPass) → slice_get bosses q ≡ Some boss → Legal (sight_in boss).opening (sight_in boss).seen
  legal q boss e = subst (Legal (sight_in boss).opening) (sym (new q boss e).1.seen) tt
