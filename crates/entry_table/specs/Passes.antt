-- what contracts see of a pass and of a table
use Rattle.std.specs.Prelude.{◌≡◌, ℕ, ◌<◌, None, List, [], ◌∷◌}
use Rattle.queue_model.specs.declared.deeds.Act.{Act}
use Rattle.queue_model.specs.declared.deeds.Deed.{Deed}
use Rattle.queue_model.specs.declared.queues.Queue.{Queue}
use Rattle.queue_model.specs.declared.steps.WordName.{WordName}
use Rattle.queue_model.specs.History.{deeds_of}
use Rattle.queue_model.specs.State.{nothing}
use Rattle.queue_model.specs.declared.queues.Depth.{Depth}
use Rattle.queue_model.specs.declared.steps.Step.{Step}
use Rattle.link_core.specs.Steps as fitting
use Rattle.acts_core.specs.Asked.{most_callers}
use Rattle.entry_table.specs.declared.view.Drawing.{Drawing}
use Rattle.entry_table.specs.declared.view.Shape.{Shape}
use Rattle.queue_model.specs.declared.steps.Tried.{Tried}
use Rattle.entry_table.specs.declared.view.View.{View}
use Rattle.entry_table.specs.declared.pass.Pass.{Pass}
use Rattle.entry_table.specs.declared.entries.Entries.{Entries}
use Rattle.entry_table.specs.Views.{view_in, state_in, rest_of}
use Rattle.entry_table.specs.Rule.{table_at}
use Rattle.entry_table.specs.Plays.{Steps, DepthShown}

abbrev pub view : Pass → View
view p = view_in p.badge.views

-- the state before the history
abbrev pub opening : Pass → Queue
opening p = (view p).opening

-- what the pass knows to begin the history
abbrev pub seen : Pass → List Deed
seen p = (view p).seen

-- the state of the queue after that
abbrev pub state : Pass → Queue
state p = state_in (view p)

abbrev pub shown : Pass → List Tried
shown p = (view p).shown

abbrev pub allowance : Pass → ℕ
allowance p = (view p).allowance

abbrev pub share : Pass → ℕ
share p = (view p).share

abbrev pub drawn : Pass → List Drawing
drawn p = (view p).drawn

abbrev pub reached : Pass → ℕ
reached p = (view p).reached

-- the callers that the pass speaks for, its own first, and the consumers whose bells it alone takes
abbrev pub callers : Pass → List ℕ
callers p = (view p).callers

abbrev pub consumers : Pass → List ℕ
consumers p = (view p).consumers

-- the pass is one of this table
pub record IsPassOf {C : Type 0} (e : Entries C) (p : Pass) : Type 0 where
  pub table : p.badge.table_id ≡ e.table.shared.table_id
  pub shape : (view p).shape ≡ e.shape

-- the same pass later: what only splits and joins change
pub record Kept (old new : Pass) : Type 0 where
  pub table : new.badge.table_id ≡ old.badge.table_id
  pub caller : new.caller ≡ old.caller
  pub shape : (view new).shape ≡ (view old).shape
  pub opening : opening new ≡ opening old
  pub callers : callers new ≡ callers old
  pub made : (view new).made ≡ (view old).made
  pub consumers : consumers new ≡ consumers old

-- what the pass may still reserve and draw stays, and so do the rows that it drew and has not linked
abbrev pub KeepsRights : Pass → Pass → Type 0
KeepsRights old new = (allowance new ≡ allowance old) × (share new ≡ share old) × (drawn new ≡ drawn old)

-- the caller of this view, whose number a state word has room for
abbrev pub SpeaksBy : ℕ → View → Type 0
SpeaksBy caller v = (v.callers ≡ caller ∷ rest_of v.callers) × (caller < most_callers)

-- The caller of the pass did these acts, and its pass has seen more.
abbrev pub Did : Pass → Pass → List Act → Type 0
Did old new acts = Steps (opening old) old.caller (callers old) (consumers old) (seen old) (seen new) (deeds_of old.caller acts)

-- a table of this shape has a word of this name
abbrev pub HasWord : Shape → WordName → Type 0
HasWord shape name = fitting.HasWord (table_at shape [] (λ r. None) nothing) name

-- the depth shown is the one just before the pass's act
abbrev pub ShowsDepth : Pass → Pass → Step → Act → ℕ → Depth → Type 0
ShowsDepth old new step a n d = DepthShown old.caller (view old) (view new) step a n d
