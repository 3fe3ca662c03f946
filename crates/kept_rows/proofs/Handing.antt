-- what a caller of a one-thread queue may do after a call
use Rattle.std.proofs.Common.{◌≡◌, ◌≢◌, ℕ, ◌<◌, ◌≤◌, ◌^◌, List, [], ◌∷◌, refl, sym, ap, ◌∙◌, subst, arith}
use Rattle.queue_model.specs.declared.deeds.Act.{Act}
use Rattle.queue_model.specs.declared.deeds.Act.TheVariants.{Acq, Reserve}
use Rattle.queue_model.specs.declared.queues.Depth.{Depth}
use Rattle.queue_model.specs.declared.queues.Queue.{Queue}
use Rattle.queue_model.specs.declared.queues.Reservation.{Reservation}
use Rattle.queue_model.specs.declared.rows.RowState.TheVariants.{Locked}
use Rattle.queue_model.specs.declared.rows.Slip.{Slip}
use Rattle.queue_model.specs.History.{after, own, deed, deeds_of}
use Rattle.queue_model.specs.State.{reserved_by, depth}
use Rattle.queue_model.specs.Table.{Can, CanGive, acted, in_state, most_bytes, most_entries}
use Rattle.queue_model.proofs.Histories.{own-cons_other}
use Rattle.queue_model.proofs.Owns.{own_reserving}
use Rattle.queue_model.proofs.RowFacts.{row_here, row_number}
use Rattle.queue_model.proofs.Stable.{held_row_stays}
use Rattle.acts_core.specs.Asked.{Enters, Handed}
use Rattle.acts_core.specs.Calls.{Call, Answer}
use Rattle.acts_core.specs.Kept.{Kept, Stands}
use Rattle.acts_core.specs.Load.{Load}
use Rattle.acts_core.specs.Moments.{HandsOut}
use Rattle.acts_core.specs.Serves.{CanCall, Serves, held_acts}
use Rattle.acts_core.specs.Sight.{Kind}
use Rattle.kept_rows.proofs.Serving.{more_give, reserved_small}

-- it may reserve an entry where there are few
pub can_reserve : (q : Queue) (h size : ℕ) (d : Depth) → d ≡ depth q → size ≤ most_bytes → d.entries < most_entries → Can q h (Reserve size)
can_reserve q h size d same small few = (small, subst (λ (n : ℕ). n < most_entries) (ap (λ (z : Depth). z.entries) same) few)

-- and then put it
pub can_put : (k : Kept) (q : Queue) (h size : ℕ) (slip : Slip) (load : Load) → Stands k q → slip.size ≡ size → size ≤ most_bytes → slip.list ≡ 0 → slip.mask < 2 ^ 64 → slip.id ≡ load.id → size ≡ load.size → Enters (acted q h (Reserve size)) h slip load
can_put k q h size slip load st sized small list mask id same = record {
  fits = record {
    size = omega (arith, sized, small);
    list = let one = st.lists in omega (arith, list, one);
    mask = subst (λ (n : ℕ). slip.mask < 2 ^ n) (sym st.consumers) mask;
  };
  reserved = subst (CanGive (reserved_by (acted q h (Reserve size)) h)) (sym sized) (subst (λ (v : Reservation). CanGive v size) (sym (own_reserving q h size)) (more_give (reserved_by q h) size (reserved_small q h st.sound)));
  id = id;
  size = sized ∙ same;
}

-- a row that was acquired is in its hands
pub acquired_hand : (q : Queue) (h r : ℕ) (load : Load) → HandsOut q r load → Handed (acted q h (Acq r)) h r load
acquired_hand q h r load x = record {
  row = in_state (Locked h) x.row;
  found = row_here q r (in_state (Locked h)) x.row x.found (row_number q r x.row x.found);
  held = refl;
  id = x.same.id;
  size = x.same.size;
  content = x.same.content;
  origin = x.same.origin;
  count = let same = x.same.count in omega (arith, same);
}

-- no act of another is its own
others_own : (k h : ℕ) (acts : List Act) → h ≢ k → own k (deeds_of h acts) ≡ []
others_own k h [] apart = refl
others_own k h (a ∷ acts) apart = own-cons_other k (deed h a) (deeds_of h acts) apart ∙ others_own k h acts apart

-- and stays in its hands while others make calls
pub hand_stays : (kind : Kind) (old new : Kept) (h : ℕ) (call : Call) (answer : Answer) (q : Queue) (k r : ℕ) (load : Load) → Serves kind old new h call answer → Stands old q → CanCall q h call → h ≢ k → Handed q k r load
    → Handed (after q (deeds_of h (held_acts call answer))) k r load
hand_stays kind old new h call answer q k r load s st can apart x = record {
  row = x.row;
  found = held_row_stays q (deeds_of h (held_acts call answer)) k r x.row (others_own k h (held_acts call answer) apart) (s.legal q st can) x.found x.held;
  held = x.held;
  id = x.id;
  size = x.size;
  content = x.content;
  origin = x.origin;
  count = x.count;
}
