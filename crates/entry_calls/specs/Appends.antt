-- what the parts of a put leave of a pass
use Rattle.std.specs.Prelude.{◌≡◌, ℕ, suc, ◌+◌, ◌<◌, ◌≤◌, Some, List, [], ◌∷◌, ◌++◌}
use Rattle.queue_model.specs.declared.deeds.Act.{Act}
use Rattle.queue_model.specs.declared.deeds.Act.TheVariants as acts
use Rattle.queue_model.specs.declared.rows.Slip.{Slip}
use Rattle.queue_model.specs.declared.steps.Tried.{Tried}
use Rattle.queue_model.specs.State.{place_at}
use Rattle.acts_core.specs.Load.{Load}
use Rattle.acts_core.specs.Walks.{reach, IsOfList, IsStop}
use Rattle.entry_table.specs.declared.draft.Draft.{Draft}
use Rattle.entry_table.specs.declared.draft.Linking.{Linking}
use Rattle.entry_table.specs.declared.draft.Linking.TheVariants.{Linked, Behind}
use Rattle.entry_table.specs.declared.pass.Pass.{Pass}
use Rattle.entry_table.specs.declared.view.Drawing.{Drawing}
use Rattle.entry_table.specs.Passes.{Did, view, state, shown}
use Rattle.entry_table.specs.Tries.{tries}
use Rattle.entry_table.specs.Views.{drawing_at}
use Rattle.entry_calls.specs.Changed.{Keeps}

-- The pass's caller did these acts, by steps that added these entries. Its rights stay.
pub record Ran (old new : Pass) (done : List Act) : Type 0 where
  pub keeps : Keeps old new
  pub did : Did old new done
  pub added : List Tried
  pub shown_is : shown new ≡ shown old ++ added

-- the pass drew the row, and these are its draft words
pub record Drafts (p : Pass) (row : ℕ) (d : Drawing) : Type 0 where
  pub drawing : drawing_at (view p) row ≡ Some d
  pub low : row < (view p).shape.rows

-- the pass drew the row, and its draft words are those of the slip, but for the place
pub record Described (p : Pass) (row : ℕ) (slip : Slip) : Type 0 where
  pub d : Drawing
  pub drawing : drawing_at (view p) row ≡ Some d
  pub low : row < (view p).shape.rows
  pub mask : d.mask ≡ slip.mask
  pub ident : d.ident ≡ slip.id
  pub size : d.size ≡ slip.size
  pub list : d.list ≡ slip.list

-- the act of a put
abbrev pub enters : ℕ → Slip → Load → Act
enters row slip l = acts.Enq row slip l.content l.origin l.count

-- the row was linked in its list, behind the stop
pub record Appended (old new : Pass) (row stop : ℕ) (slip : Slip) (l : Load) : Type 0 where
  pub ran : Ran old new (enters row slip l ∷ [])
  pub there : IsOfList (state new) slip.list row
  pub behind : reach (state new) stop ≤ place_at (state new) row
  -- each try but the last passed a row by
  pub tries : tries (shown new) + reach (state new) stop ≤ tries (shown old) + suc (place_at (state new) row)

-- another row stands behind the stop: the next stop. The draft comes back.
pub record Passed {C : Type 0} (old new : Pass) (draft back : Draft C) (stop next : ℕ) (slip : Slip) : Type 0 where
  pub ran : Ran old new []
  pub same_row : back.row ≡ draft.row
  pub same_cargo : back.cargo ≡ draft.cargo
  pub described : Described new draft.row slip
  pub stands : IsStop (state new) slip.list next
  pub more : reach (state new) stop < reach (state new) next
  pub low : reach (state new) next ≤ (view new).shape.rows
  pub tries : tries (shown new) + reach (state new) stop ≤ tries (shown old) + reach (state new) next

abbrev pub Turned : {C : Type 0} → (C → Load) → Pass → Pass → Draft C → ℕ → Slip → Linking C → Type 0
Turned load old new draft stop slip Linked = Appended old new draft.row stop slip (load draft.cargo)
Turned load old new draft stop slip (Behind next back) = Passed old new draft back stop next slip
