-- changes that bring a row's cargo home, and deletions
use Rattle.std.specs.Prelude.{◌≡◌, ℕ, Some, None, Option, [], ◌∷◌}
use Rattle.atomic_table.specs.Table.{Me}
use Rattle.queue_model.specs.declared.deeds.Act.TheVariants as acts
use Rattle.queue_model.specs.declared.queues.Queue.{Queue}
use Rattle.queue_model.specs.declared.rows.Row.{Row}
use Rattle.queue_model.specs.declared.rows.RowState.TheVariants.{Locked, Dequeued}
use Rattle.queue_model.specs.declared.steps.Change.{Change}
use Rattle.queue_model.specs.declared.steps.Change.TheVariants as changes
use Rattle.queue_model.specs.declared.steps.Step.TheVariants as steps
use Rattle.queue_model.specs.declared.steps.WordName.TheVariants as names
use Rattle.queue_model.specs.State.{row_at}
use Rattle.acts_core.specs.Load.{Load}
use Rattle.link_core.specs.Steps.{act_with}
use Rattle.entry_table.specs.declared.view.View.{View}
use Rattle.entry_table.specs.Views.{caller_of, state_in}
use Rattle.entry_table.specs.Plays.{freed, DidChange, slotted_view}

-- changes that bring the row's cargo home
abbrev pub BringsHome : Change → Type 0
BringsHome changes.Unlock = Unit {0}
BringsHome changes.Rel = Unit {0}
BringsHome change = ⊥

-- h holds the row, and the cargo is the row's but for its count
pub record Holding (q : Queue) (h row : ℕ) (l : Load) : Type 0 where
  pub x : Row
  pub found : row_at q row ≡ Some x
  pub held : x.state ≡ Locked h
  pub id : l.id ≡ x.slip.id
  pub size : l.size ≡ x.slip.size
  pub content : l.content ≡ x.content
  pub origin : l.origin ≡ x.origin

-- a change that brings home the cargo in the row's slot; it cannot miss, since the pass holds the row
abbrev pub bringing : {C : Type 0} → (C → Load) → ℕ → Change → Me (Option C) View → ℕ → Me (Option C) View → Type 0
bringing {C} load row change m n m' = (c : C) → m.1 ≡ (row, Some c) ∷ [] → freed row change (Locked (caller_of m.0.callers)) (load c).count m n m'

module _ {C : Type 0} (load : C → Load) where
  -- the pass holds the row, whose slot is out with it and has the cargo
  pub record HomeReady (m : Me (Option C) View) (h row : ℕ) : Type 0 where
    pub c : C
    pub out : m.0.slot ≡ Some row
    pub carried : m.1 ≡ (row, Some c) ∷ []
    pub holding : Holding (state_in m.0) h row (load c)

-- The slot was taken by a load, and then the row was changed from the lock of the pass's caller by an act with this count.
pub record Brought (v w : View) (row : ℕ) (change : Change) (count : ℕ) : Type 0 where
  pub first : ℕ
  pub x : Row
  pub did : DidChange (slotted_view v (Some row) (steps.Load names.Callers) first) w row change (Locked (caller_of v.callers)) None (act_with count change row) x

-- a deletion of a row that the caller dequeued; it cannot miss
abbrev pub deleted : {C : Type 0} → ℕ → Me (Option C) View → ℕ → Me (Option C) View → Type 0
deleted row m n m' = (x : Row) × (m'.1 ≡ m.1) × DidChange m.0 m'.0 row changes.Del Dequeued None (acts.Del row) x
