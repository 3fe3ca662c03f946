-- what one change of a row's state, and one look, leave of a pass
use Rattle.std.specs.Prelude.{◌≡◌, ℕ, Some, List, [], ◌∷◌, ◌++◌}
use Rattle.queue_model.specs.declared.deeds.Act.{Act}
use Rattle.queue_model.specs.declared.deeds.Deed.{Deed}
use Rattle.queue_model.specs.declared.rows.Row.{Row}
use Rattle.queue_model.specs.declared.rows.RowState.{RowState}
use Rattle.queue_model.specs.declared.steps.Tried.{Tried}
use Rattle.queue_model.specs.History.{after, deed}
use Rattle.queue_model.specs.State.{row_at}
use Rattle.acts_core.specs.Lists.{Saw}
use Rattle.acts_core.specs.Moments.{JustBefore}
use Rattle.acts_core.specs.Sight.{Showed}
use Rattle.entry_table.specs.declared.pass.Pass.{Pass}
use Rattle.entry_table.specs.Passes.{Kept, Did, opening, seen, shown, allowance, share}

-- the same pass later, with the same rights
pub record Keeps (old new : Pass) : Type 0 where
  pub kept : Kept old new
  pub allowance : allowance new ≡ allowance old
  pub share : share new ≡ share old

-- The pass's caller did one act, by steps that added these entries. Row r was x just before it.
pub record Changed (old new : Pass) (a : Act) (r : ℕ) (x : Row) (added : List Tried) : Type 0 where
  pub did : Did old new (a ∷ [])
  pub shown_is : shown new ≡ shown old ++ added
  pub moment : List Deed
  pub before : JustBefore (seen old) (seen new) (deed old.caller a) moment
  pub last : seen new ≡ moment ++ deed old.caller a ∷ []
  pub found : row_at (after (opening old) moment) r ≡ Some x

-- Nothing was done, by one step that added this entry and showed that row r is in this state.
pub record Looks (old new : Pass) (r : ℕ) (s : RowState) (entry : Tried) : Type 0 where
  pub did : Did old new []
  pub shown_is : shown new ≡ shown old ++ entry ∷ []
  pub saw : Saw (Showed (entry ∷ [])) (opening old) (seen old) (seen new) r s (seen new)
