-- moments of a call, and what its caller is handed
use Rattle.std.specs.Prelude.{◌≡◌, ℕ, Some, List, [], ◌∷◌, ◌++◌}
use mathlib.Core.List.{IsPrefix}
use Rattle.queue_model.specs.declared.deeds.Deed.{Deed}
use Rattle.queue_model.specs.declared.queues.Queue.{Queue}
use Rattle.queue_model.specs.declared.rows.Row.{Row}
use Rattle.queue_model.specs.State.{row_at}
use Rattle.acts_core.specs.Load.{Load}

-- A moment is what the history was then. A call begins at s0 and ends at s1, as far as its caller knows.

-- a moment between the beginning and the end of a call
pub record Between (s0 s1 p : List Deed) : Type 0 where
  pub later : IsPrefix s0 p
  pub early : IsPrefix p s1

-- the moment just before a deed of the call
pub record JustBefore (s0 s1 : List Deed) (d : Deed) (p : List Deed) : Type 0 where
  pub later : IsPrefix s0 p
  pub early : IsPrefix (p ++ d ∷ []) s1

-- the moment just before all deeds of the call, which stand at the end; the end itself where it has none
pub record BeforeAll (s0 s1 ds p : List Deed) : Type 0 where
  pub later : IsPrefix s0 p
  pub whole : p ++ ds ≡ s1

-- the queue has this row
abbrev pub IsRow : Queue → Row → Type 0
IsRow q x = row_at q x.number ≡ Some x

-- no row of the queue passes
abbrev pub NoRow : Queue → (Row → Type 0) → Type 0
NoRow q Pass = (y : Row) → IsRow q y → Pass y → ⊥

-- a cargo that is handed out is that of its row
pub record IsLoadOf (x : Row) (load : Load) : Type 0 where
  pub id : load.id ≡ x.slip.id
  pub size : load.size ≡ x.slip.size
  pub count : load.count ≡ x.count
  pub content : load.content ≡ x.content
  pub origin : load.origin ≡ x.origin

-- row r as it was, and the cargo that was handed out for it
pub record HandsOut (q : Queue) (r : ℕ) (load : Load) : Type 0 where
  pub row : Row
  pub found : row_at q r ≡ Some row
  pub same : IsLoadOf row load

-- row r has this mask
abbrev pub HasMask : Queue → ℕ → ℕ → Type 0
HasMask q r mask = (x : Row) × (row_at q r ≡ Some x) × (x.slip.mask ≡ mask)

-- row r has this size
abbrev pub HasSize : Queue → ℕ → ℕ → Type 0
HasSize q r size = (x : Row) × (row_at q r ≡ Some x) × (x.slip.size ≡ size)
