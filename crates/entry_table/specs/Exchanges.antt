-- the public exchange of a row's state
use Rattle.std.specs.Prelude.{◌≡◌, ℕ, Option, Some, None, Ok, Err}
use Rattle.queue_model.specs.declared.rows.Row.{Row}
use Rattle.queue_model.specs.declared.rows.RowState.{RowState}
use Rattle.queue_model.specs.declared.rows.RowState.TheVariants.{Locked, Dequeued}
use Rattle.queue_model.specs.declared.steps.Change.{Change}
use Rattle.queue_model.specs.declared.steps.Change.TheVariants as changes
use Rattle.queue_model.specs.State.{row_at, IsIn}
use Rattle.acts_core.specs.Asked.{HasDequeued}
use Rattle.acts_core.specs.Load.{Load}
use Rattle.link_core.specs.Steps.{GoesFrom, IsPackable, act_with}
use Rattle.entry_table.specs.declared.changes.Exchanged.{Exchanged}
use Rattle.entry_table.specs.declared.changes.Exchanged.TheVariants.{Done, Shown}
use Rattle.entry_table.specs.declared.view.View.{View}
use Rattle.entry_table.specs.Views.{state_in}
use Rattle.entry_table.specs.Plays.{DidChange, Taking}
use Rattle.entry_table.specs.Homes.{Holding, Brought}

module _ {C : Type 0} (load : C → Load) where
  -- the caller holds the row, with its cargo
  abbrev pub HoldsWith : View → ℕ → ℕ → Option C → Type 0
  HoldsWith v h row None = ⊥
  HoldsWith v h row (Some c) = Holding (state_in v) h row (load c)

  -- what a change asks: a row that the pass knows and a state that it goes from; that the caller holds the row, with its
  -- cargo where that comes home; and of a deletion that the caller dequeued the row
  abbrev pub MayChange : View → ℕ → ℕ → Change → RowState → Option C → Type 0
  MayChange v h row changes.Unlock from cargo = HoldsWith v h row cargo × (from ≡ Locked h)
  MayChange v h row changes.Rel from cargo = HoldsWith v h row cargo × (from ≡ Locked h)
  MayChange v h row changes.Deq from cargo = IsIn (state_in v) row (Locked h) × (from ≡ Locked h) × (cargo ≡ None)
  MayChange v h row changes.Del from cargo = ((x : Row) × (row_at (state_in v) row ≡ Some x)) × HasDequeued h row v.seen × (from ≡ Dequeued) × (cargo ≡ None)
  MayChange v h row change from cargo = ((x : Row) × (row_at (state_in v) row ≡ Some x)) × GoesFrom h change from × IsPackable from × (cargo ≡ None)

  -- the cargo was handed out, or the row was in another state
  abbrev pub Taken : View → View → ℕ → Change → RowState → Exchanged C → Type 0
  Taken v w row change from (Done (Some c)) = Taking load row change from v w (Ok c)
  Taken v w row change from (Shown s None) = Taking load row change from v w (Err s)
  Taken v w row change from answer = ⊥

  -- the cargo came home, with its count
  abbrev pub CameHome : View → View → ℕ → Change → Option C → Exchanged C → Type 0
  CameHome v w row change (Some c) (Done None) = Brought v w row change (load c).count
  CameHome v w row change cargo answer = ⊥

  -- the row left the queue, or was deleted
  abbrev pub Ended : View → View → ℕ → Change → RowState → Exchanged C → Type 0
  Ended v w row change from (Done None) = (x : Row) × DidChange v w row change from None (act_with 0 change row) x
  Ended v w row change from answer = ⊥

  -- what the exchange did, by its answer
  abbrev pub Changed : View → View → ℕ → ℕ → Change → RowState → Option C → Exchanged C → Type 0
  Changed v w h row changes.Unlock from cargo answer = CameHome v w row changes.Unlock cargo answer
  Changed v w h row changes.Rel from cargo answer = CameHome v w row changes.Rel cargo answer
  Changed v w h row changes.Deq from cargo answer = Ended v w row changes.Deq (Locked h) answer
  Changed v w h row changes.Del from cargo answer = Ended v w row changes.Del Dequeued answer
  Changed v w h row change from cargo answer = Taken v w row change from answer
