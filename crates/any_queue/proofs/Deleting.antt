-- a deletion, and what is then done for the row's list
use Rattle.std.proofs.Common.{◌≡◌, ℕ, Some, List, [], ◌∷◌, ◌++◌, refl, sym, ap, ap₂, ◌∙◌, subst}
use Rattle.queue_model.specs.declared.deeds.Act.TheVariants as acts
use Rattle.queue_model.specs.declared.queues.Queue.{Queue}
use Rattle.queue_model.specs.declared.rows.Row.{Row}
use Rattle.queue_model.specs.declared.steps.Tried.{Tried}
use Rattle.queue_model.specs.History.{after}
use Rattle.queue_model.specs.State.{row_at}
use Rattle.queue_model.proofs.Stable.{row_stays}
use Rattle.acts_core.specs.Asked.{HasDequeued}
use Rattle.acts_core.specs.Calls.{CallDelete, IsDone}
use Rattle.acts_core.specs.Meaning.{Called}
use Rattle.acts_core.specs.Sight.{Sight}
use Rattle.acts_core.specs.Steps.{Stepped, SameRights}
use Rattle.acts_core.proofs.Sparing.{after_rest}
use Rattle.acts_core.proofs.Stepping.{stepped_trans, called_by}
use Rattle.entry_table.specs.declared.entries.Entries.{Entries}
use Rattle.entry_table.specs.declared.pass.Pass.{Pass}
use Rattle.entry_table.specs.Passes.{opening, seen, state}
use Rattle.entry_table.specs.Sights.{build_of, sight, Serves}
use Rattle.entry_table.proofs.Later.{served}
use Rattle.entry_table.proofs.Outs.{acted_row}
use Rattle.scavenge_core.specs.Scavenges.{OnDeleted}
use Rattle.scavenge_core.proofs.Noting.{deleted_tries}

module _ {C : Type 0} (e : Entries C) (old mid new : Pass) (row : ℕ) (c : Called (build_of e) (sight old) (sight mid) (CallDelete row) IsDone) where
  -- the deletion, as steps of the pass
  deletes : Stepped (sight old) (sight mid) (acts.Del row ∷ []) c.added
  deletes = record {
    grows = c.meets.grows;
    legal = c.meets.legal;
    own_acts = c.meets.own_acts;
    takes = c.takes;
    ended = c.ended;
    rest = c.rest ∙ ap₂ (λ (n m : ℕ). record (sight old) { seen = seen mid; shown = (sight old).shown ++ c.added; allowance = n; share = m }) (sym (ap (λ (s : Sight). s.allowance) c.rest)) (sym (ap (λ (s : Sight). s.share) c.rest));
  }

  -- the row is still there
  pub deleted_known : Serves e old → HasDequeued old.caller row (seen old) → (x : Row) × (row_at (state mid) row ≡ Some x)
  deleted_known s dequeued =
      let t = acted_row (opening old) old.caller row (acts.Deq row) (seen old) s.legal dequeued in
      let y = row_stays (state old) c.meets.grows.0 row t.0 t.1 in
      let found : row_at (after (opening old) (seen mid)) row ≡ Some y.0 = subst (λ (q : Queue). row_at q row ≡ Some y.0) (after_rest (opening old) (seen old) (seen mid) c.meets.grows) y.1 in
      (y.0, subst (λ (o : Queue). row_at (after o (seen mid)) row ≡ Some y.0) (sym (ap (λ (s : Sight). s.opening) c.rest)) found)

  -- what is then done for the list is no act
  pub deletes_on : OnDeleted mid new row → Called (build_of e) (sight old) (sight new) (CallDelete row) IsDone
  deletes_on d =
      let t = deleted_tries mid new row d in
      called_by (build_of e) (sight old) (sight new) (CallDelete row) IsDone (c.added ++ t.0) refl (stepped_trans (sight old) (sight mid) (sight new) (acts.Del row ∷ []) [] c.added t.0 deletes t.1.steps) tt tt
      (t.1.rights.allowance ∙ ap (λ (s : Sight). s.allowance) c.rest) (t.1.rights.share ∙ ap (λ (s : Sight). s.share) c.rest)

-- the table serves the pass that scavenged
pub serves_deleted : {C : Type 0} (e : Entries C) (mid new : Pass) (row : ℕ) → Serves e mid → OnDeleted mid new row → Serves e new
serves_deleted e mid new row s d = let t = deleted_tries mid new row d in served e mid new s t.1.kept t.1.steps.legal
