-- what contracts see of a table of words
use Rattle.std.specs.Prelude.{◌≡◌, ℕ, ◌<◌, ◌==◌, if◌then◌else◌, Option, None, List, slice_index}
use Rattle.queue_model.specs.declared.queues.Reservation.{Reservation}
use Rattle.queue_model.specs.declared.steps.DraftWord.TheVariants as drafts
use Rattle.queue_model.specs.declared.steps.Node.{Node}
use Rattle.queue_model.specs.declared.steps.Node.TheVariants as nodes
use Rattle.link_core.specs.declared.places.TheConstants.{TOP}
use Rattle.link_core.specs.Layout.{draft_of}

-- The words, and beside them who drew each row that is not linked, and what each caller has reserved.
pub record Table : Type 0 where
  pub rows : ℕ
  pub lists : ℕ
  pub consumers : ℕ
  pub callers : ℕ
  pub words : List ℕ
  pub drawer : ℕ → Option ℕ
  pub reserved : ℕ → Reservation

-- how many rows were drawn
abbrev pub top : Table → ℕ
top t = slice_index t.words TOP

-- another value at one number
abbrev pub but : {X : Type 0} → (ℕ → X) → ℕ → X → ℕ → X
but f k v n = if n == k then v else f n

-- the row was drawn and is linked
pub record IsLinked (t : Table) (r : ℕ) : Type 0 where
  pub drawn : r < top t
  pub free : t.drawer r ≡ None

-- a head of a list that the table has, or a linked row
abbrev pub IsNode : Table → Node → Type 0
IsNode t (nodes.Head l) = l < t.lists
IsNode t (nodes.Row r) = IsLinked t r

-- the list that a node is in
abbrev pub list_of_node : Table → Node → ℕ
list_of_node t (nodes.Head l) = l
list_of_node t (nodes.Row r) = slice_index t.words (draft_of r drafts.List)
