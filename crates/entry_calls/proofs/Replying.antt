-- what the calls on one row mean
use Rattle.std.proofs.Common.{◌≡◌, ◌≢◌, ℕ, List, [], ◌∷◌, ◌++◌, Some, refl, ◌∙◌, subst}
use mathlib.Core.List.{IsPrefix}
use mathlib.Core.List.{mem-cons_of_mem}
use mathlib.Core.List.{mem-append_left}
use Rattle.queue_model.specs.declared.deeds.Act.{Act}
use Rattle.queue_model.specs.declared.deeds.Act.TheVariants as acts
use Rattle.queue_model.specs.declared.queues.Queue.{Queue}
use Rattle.queue_model.specs.declared.rows.Row.{Row}
use Rattle.queue_model.specs.declared.rows.RowState.{RowState}
use Rattle.queue_model.specs.declared.rows.RowState.TheVariants.{Unlocked}
use Rattle.queue_model.specs.declared.steps.Tried.{Tried}
use Rattle.queue_model.specs.History.{after, deed}
use Rattle.queue_model.specs.State.{row_at, IsIn}
use Rattle.queue_model.proofs.Prefixes.{prefix_trans}
use Rattle.acts_core.specs.Calls.{CallLock, CallUnlock, CallSteal, CallDelete, IsLocked, IsStolen, HasStolen, IsNotStealable, IsMoved, IsDone}
use Rattle.acts_core.specs.Load.{Load}
use Rattle.acts_core.specs.Meaning.{Called}
use Rattle.acts_core.specs.Moments.{IsLoadOf}
use Rattle.acts_core.specs.Steps.{Stepped}
use Rattle.acts_core.proofs.Stepping.{called_by, stepped_trans}
use Rattle.entry_table.specs.declared.entries.Entries.{Entries}
use Rattle.entry_table.specs.declared.pass.Pass.{Pass}
use Rattle.entry_table.specs.Passes.{Did, seen, shown}
use Rattle.entry_table.specs.Sights.{build_of, sight}
use Rattle.entry_table.proofs.Sighting.{stepped}
use Rattle.entry_calls.specs.Changed.{Keeps, Changed, Looks}

-- a cargo is that of its row

pub keeps_trans : (a b c : Pass) → Keeps a b → Keeps b c → Keeps a c
keeps_trans a b c k l = record {
  kept = record {
    table = l.kept.table ∙ k.kept.table;
    caller = l.kept.caller ∙ k.kept.caller;
    shape = l.kept.shape ∙ k.kept.shape;
    opening = l.kept.opening ∙ k.kept.opening;
    callers = l.kept.callers ∙ k.kept.callers;
    made = l.kept.made ∙ k.kept.made;
    consumers = l.kept.consumers ∙ k.kept.consumers;
  };
  allowance = l.allowance ∙ k.allowance;
  share = l.share ∙ k.share;
}

module _ {C : Type 0} (e : Entries C) (old new : Pass) (keeps : Keeps old new) (row : ℕ) where
  -- Locks

  pub locks : (l : Load) (x : Row) (added : List Tried) → IsLoadOf x l → Changed old new (acts.Lock row) row x added → Called (build_of e) (sight old) (sight new) (CallLock row) (IsLocked l)
  locks l x added carries c =
      called_by (build_of e) (sight old) (sight new) (CallLock row) (IsLocked l) added refl (stepped old new (acts.Lock row ∷ []) added keeps.kept c.did c.shown_is)
      (record { moment = c.moment; before = c.before; hands = record { row = x; found = c.found; same = carries } }) tt keeps.allowance keeps.share

  pub lock_stolen : (s : RowState) (t : Tried) → s ≢ Unlocked old.caller → Looks old new row s t → Called (build_of e) (sight old) (sight new) (CallLock row) (IsStolen s)
  lock_stolen s t other l =
      called_by (build_of e) (sight old) (sight new) (CallLock row) (IsStolen s) (t ∷ []) refl (stepped old new [] (t ∷ []) keeps.kept l.did l.shown_is)
      (record { other = other; moment = seen new; saw = l.saw }) tt keeps.allowance keeps.share

  -- Unlocks

  pub unlocks : (l : Load) (x : Row) (added : List Tried) → Changed old new (acts.Unlock row l.count) row x added → Called (build_of e) (sight old) (sight new) (CallUnlock row l) IsDone
  unlocks l x added c =
      called_by (build_of e) (sight old) (sight new) (CallUnlock row l) IsDone added refl (stepped old new (acts.Unlock row l.count ∷ []) added keeps.kept c.did c.shown_is) tt tt keeps.allowance keeps.share

  -- Deletions

  pub deletes : (added : List Tried) → Did old new (acts.Del row ∷ []) → shown new ≡ shown old ++ added → Called (build_of e) (sight old) (sight new) (CallDelete row) IsDone
  deletes added did is = called_by (build_of e) (sight old) (sight new) (CallDelete row) IsDone added refl (stepped old new (acts.Del row ∷ []) added keeps.kept did is) tt tt keeps.allowance keeps.share

  -- Steals

  pub not_stealable : (s : RowState) (t : Tried) → ((k : ℕ) → s ≢ Unlocked k) → Looks old new row s t → Called (build_of e) (sight old) (sight new) (CallSteal row) (IsNotStealable s)
  not_stealable s t other l =
      called_by (build_of e) (sight old) (sight new) (CallSteal row) (IsNotStealable s) (t ∷ []) refl (stepped old new [] (t ∷ []) keeps.kept l.did l.shown_is)
      (record { other = other; moment = seen new; saw = l.saw }) tt keeps.allowance keeps.share

-- a look at a row's state, and then another step
module _ {C : Type 0} (e : Entries C) (old mid new : Pass) (first : Keeps old mid) (second : Keeps mid new) (row : ℕ) where
  both : Keeps old new
  both = keeps_trans old mid new first second

  steps_both : (s : RowState) (t : Tried) (acts_done : List Act) (added : List Tried) → Looks old mid row s t → Did mid new acts_done → shown new ≡ shown mid ++ added → Stepped (sight old) (sight new) acts_done (t ∷ added)
  steps_both s t acts_done added l did is = stepped_trans (sight old) (sight mid) (sight new) [] acts_done (t ∷ []) added (stepped old mid [] (t ∷ []) first.kept l.did l.shown_is) (stepped mid new acts_done added second.kept did is)

  pub steals : (l : Load) (x : Row) (s : RowState) (t : Tried) (added : List Tried) → Looks old mid row s t → IsLoadOf x l → Changed mid new (acts.Steal row) row x added → Called (build_of e) (sight old) (sight new) (CallSteal row) (HasStolen l)
  steals l x s t added look carries c =
      let open_same = first.kept.opening in
      called_by (build_of e) (sight old) (sight new) (CallSteal row) (HasStolen l) (t ∷ added) refl (steps_both s t (acts.Steal row ∷ []) added look c.did c.shown_is)
      (record {
        moment = c.moment;
        before = record {
          later = prefix_trans (seen old) (seen mid) c.moment look.did.prefix c.before.later;
          early = subst (λ (k : ℕ). IsPrefix (c.moment ++ deed k (acts.Steal row) ∷ []) (seen new)) first.kept.caller c.before.early;
        };
        hands = record { row = x; found = subst (λ (o : Queue). row_at (after o c.moment) row ≡ Some x) open_same c.found; same = carries };
      }) tt both.allowance both.share

  pub moves : (k : ℕ) (s : RowState) (t t' : Tried) → Looks old mid row (Unlocked k) t → s ≢ Unlocked k → Looks mid new row s t' → Called (build_of e) (sight old) (sight new) (CallSteal row) (IsMoved s)
  moves k s t t' look other look' =
      let a = look.saw in let b = look'.saw in
      called_by (build_of e) (sight old) (sight new) (CallSteal row) (IsMoved s) (t ∷ t' ∷ []) refl (steps_both (Unlocked k) t [] (t' ∷ []) look look'.did look'.shown_is)
      (record {
        owner = k;
        first = seen mid;
        second = seen new;
        left = record {
          between = record { later = a.between.later; early = look'.did.prefix };
          state = a.state;
          told = (a.told.0, mem-append_left (t' ∷ []) a.told.1, a.told.2, a.told.3, a.told.4);
        };
        moved = record {
          between = record { later = prefix_trans (seen old) (seen mid) (seen new) look.did.prefix look'.did.prefix; early = b.between.early };
          state = subst (λ (o : Queue). IsIn (after o (seen new)) row s) first.kept.opening b.state;
          told = (b.told.0, mem-cons_of_mem t b.told.1, b.told.2, b.told.3, b.told.4);
        };
        order = look'.did.prefix;
        other = other;
      }) tt both.allowance both.share
