-- What calls leave of a pass, and the passes of threads that were split off and joined.
use Rattle.std.proofs.Common.{◌≡◌, ◌≢◌, ℕ, ◌+◌, ◌<◌, ◌≤◌, ◌^◌, Some, Ok, Err, List, [], ◌∷◌, ◌++◌, refl, sym, ap, ◌∙◌, subst, arith}
use Rattle.queue_model.specs.declared.rows.Slip.{Slip}
use Rattle.queue_model.specs.declared.queues.Depth.{Depth}
use Rattle.queue_model.specs.State.{reserved_by, row_at}
use Rattle.queue_model.specs.Table.{CanGive, changed, in_state}
use Rattle.acts_core.specs.Asked.{Handed, MayPut}
use Rattle.acts_core.specs.Calls.{CallReserve, IsDepth}
use Rattle.acts_core.specs.Hands.{SamePass}
use Rattle.acts_core.specs.Load.{Load}
use Rattle.acts_core.specs.Meaning.{Called}
use Rattle.acts_core.specs.Sight.{Listed, Sight}
use Rattle.acts_core.proofs.Passes.{pass_reserves}
use Rattle.entry_table.specs.declared.entries.Entries.{Entries}
use Rattle.entry_table.specs.declared.pass.Pass.{Pass}
use Rattle.entry_table.specs.declared.view.Shape.{Shape}
use Rattle.entry_table.specs.Passes.{Kept, view, opening, seen, state, callers}
use Rattle.entry_table.specs.Plays.{Taking}
use Rattle.entry_table.proofs.Sighting.{serves_on}
use Rattle.entry_calls.proofs.Changes.{took_row, missed_row}
use Rattle.queue_model.specs.declared.deeds.Act.TheVariants as acts
use Rattle.queue_model.specs.declared.queues.Queue.{Queue}
use Rattle.queue_model.specs.declared.rows.Row.{Row}
use Rattle.queue_model.specs.declared.rows.RowState.{RowState}
use Rattle.queue_model.specs.declared.rows.RowState.TheVariants.{Available, Locked}
use Rattle.queue_model.specs.declared.steps.Change.TheVariants as changes
use Rattle.queue_model.specs.History.{after, deed}
use Rattle.queue_model.proofs.Histories.{after-append}
use Rattle.queue_model.proofs.RowFacts.{row_here, row_number}
use Rattle.entry_table.specs.Sights.{build_of, Serves, sight}

-- Passes

pub same_self : (s : Sight) → SamePass s s
same_self s = record { opening = refl; caller = refl; consumers = refl; ended = refl; made = refl }

pub same_then : (a b c : Sight) → SamePass a b → SamePass b c → SamePass a c
same_then a b c p q = record {
  opening = q.opening ∙ p.opening;
  caller = q.caller ∙ p.caller;
  consumers = q.consumers ∙ p.consumers;
  ended = q.ended ∙ p.ended;
  made = q.made ∙ p.made;
}

-- the callers that a pass speaks for
pub same_callers : (a b : Pass) → SamePass (sight a) (sight b) → callers b ≡ callers a
same_callers a b s = b.speaks ∙ (λ i. s.caller i ∷ s.ended i) ∙ sym a.speaks

-- what was reserved may be put: an entry with no bytes that nobody wants, in the only list
module _ {C : Type 0} (e : Entries C) (before now : Pass) (slip : Slip) (load : Load) where
  pub may_put : (depth : Depth) → Serves e before → Serves e now → Called (build_of e) (sight before) (sight now) (CallReserve 0) (IsDepth depth) → e.shape.lists ≡ 1 → e.shape.consumers ≡ 0
      → slip.size ≡ 0 → slip.mask ≡ 0 → slip.list ≡ 0 → slip.key ≡ Rattle.std.proofs.Common.None → slip.id ≡ load.id → slip.size ≡ load.size → MayPut Listed (state now) now.caller slip load
  may_put depth b s reserves one none size mask list key id sized =
      let lists : (state now).lists ≡ 1 = now.within.lists ∙ ap (λ (z : Shape). z.lists) s.pass.shape ∙ one in
      let wanted : (state now).consumers ≡ 0 = now.within.consumers ∙ ap (λ (z : Shape). z.consumers) s.pass.shape ∙ none in
      record {
        enters = record {
          fits = record {
            size = omega (arith, size);
            list = omega (arith, list, lists);
            mask = subst (λ (n : ℕ). slip.mask < 2 ^ n) (sym wanted) (omega (arith, mask));
          };
          reserved = subst (CanGive (reserved_by (state now) now.caller)) (sym size) (pass_reserves (build_of e) (sight before) (sight now) 0 depth b.opening reserves);
          id = id;
          size = sized;
        };
        key = key;
      }

-- a row that was acquired

module _ {C : Type 0} (load : C → Load) (old new : Pass) (row : ℕ) (k : Kept old new) where
  pub serves_taken : (e : Entries C) (c : C) → Serves e old → Taking load row changes.Acq Available (view old) (view new) (Ok c) → Serves e new
  serves_taken e c s t = serves_on e old new (acts.Acq row ∷ []) s k (took_row load old new row changes.Acq Available c t).3.did

  pub serves_missed : (e : Entries C) (s : RowState) → Serves e old → Taking load row changes.Acq Available (view old) (view new) (Err s) → Serves e new
  serves_missed e s serves t = serves_on e old new [] serves k (missed_row old new row changes.Acq Available s t).1.did

  -- it is in the caller's hands
  pub handed_now : (c : C) → Taking load row changes.Acq Available (view old) (view new) (Ok c) → Handed (state new) new.caller row (load c)
  handed_now c t =
      let took = took_row load old new row changes.Acq Available c t in
      let x : Row = took.0 in
      let same = took.1 in
      let d = took.3 in
      let q : Queue = after (opening old) d.moment in
      let locked : Row → Row = in_state (Locked old.caller) in
      let is : state new ≡ changed q row locked =
      ap (λ (o : Queue). after o (seen new)) k.opening ∙ ap (after (opening old)) d.last ∙ after-append (opening old) d.moment (deed old.caller (acts.Acq row) ∷ [])
      in
      let there : row_at (changed q row locked) row ≡ Some (locked x) = row_here q row locked x d.found (row_number q row x d.found) in
      record {
        row = locked x;
        found = subst (λ (z : Queue). row_at z row ≡ Some (locked x)) (sym is) there;
        held = ap Locked (sym k.caller);
        id = same.id;
        size = same.size;
        content = same.content;
        origin = same.origin;
        count = (let count = same.count in omega (arith, count));
      }
