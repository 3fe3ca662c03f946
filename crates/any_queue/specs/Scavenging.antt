-- deletions, and what is done for the lists of deleted rows
use Rattle.std.specs.Prelude.{◌≡◌, ℕ, [], ◌∷◌, ◌++◌}
use Rattle.queue_model.specs.declared.rows.RowState.TheVariants.{Dequeued, Deleted}
use Rattle.queue_model.specs.declared.steps.Change.TheVariants as changes
use Rattle.queue_model.specs.declared.steps.Step.TheVariants as steps
use Rattle.queue_model.specs.Packing.{pack_state}
use Rattle.entry_table.specs.declared.pass.Pass.{Pass}
use Rattle.entry_table.specs.Passes.{Kept, seen, shown}
use Rattle.entry_table.specs.Views.{entry}
use Rattle.scavenge_core.specs.Scavenges.{OnDeleted}
use Rattle.any_queue.specs.declared.kinds.AnyPass.{AnyPass}
use Rattle.any_queue.specs.declared.kinds.AnyPass.TheVariants as passes

-- A row of a listed queue was deleted by one exchange of its state. Then its list's mark and count were told of it, and the
-- list was scavenged where enough of its rows were deleted.
pub record Deletes (old new : Pass) (row : ℕ) : Type 0 where
  pub mid : Pass
  pub kept : Kept old mid
  pub shown :
      shown mid
      ≡ shown old ++ entry (steps.State row changes.Del Dequeued) (pack_state Dequeued) (pack_state Deleted) (seen mid) ∷ []
  pub then : OnDeleted mid new row

-- the same of any queue: a held queue has nothing to scavenge
abbrev pub DeletesAny : AnyPass → AnyPass → ℕ → Type 0
DeletesAny (passes.Listed old) (passes.Listed new) row = Deletes old.pass new.pass row
DeletesAny (passes.Held old) (passes.Held new) row = Unit {0}
DeletesAny old new row = ⊥
