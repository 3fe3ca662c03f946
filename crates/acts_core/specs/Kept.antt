-- what a one-thread queue keeps, and the states for which it stands
use Rattle.std.specs.Prelude.{◌≡◌, ℕ, suc, Bool, true, false, if◌then◌else◌, Option, Some, None, List, [], ◌∷◌, map}
use Rattle.queue_model.specs.declared.queues.Depth.{Depth}
use Rattle.queue_model.specs.declared.queues.Queue.{Queue}
use Rattle.queue_model.specs.declared.rows.Row.{Row}
use Rattle.queue_model.specs.declared.rows.RowState.{RowState}
use Rattle.queue_model.specs.declared.rows.RowState.TheVariants.{Available, Locked, Unlocked, Dequeued, Deleted}
use Rattle.queue_model.specs.declared.rows.Slip.{Slip}
use Rattle.queue_model.specs.State.{depth}
use Rattle.queue_model.specs.Sound.{Sound}

-- what goes with a cargo: its content and where that came from, and the count of its deliveries
pub record Goods : Type 0 where
  pub content : List ℕ
  pub origin : List ℕ
  pub count : ℕ

-- a row: its goods are kept while its cargo is at home
pub record KeptRow : Type 0 where
  pub slip : Slip
  pub state : RowState
  pub goods : Option Goods

-- the rows in order of arrival, the depth, and how many more rows there is room for
pub record Kept : Type 0 where
  pub spare : ℕ
  pub depth : Depth
  pub rows : List KeptRow

-- whether the cargo of a row in this state is at home
abbrev pub at_home : RowState → Bool
at_home Available = true
at_home (Locked h) = false
at_home (Unlocked h) = true
at_home Dequeued = false
at_home Deleted = false

-- what goes with the cargo of a row
abbrev pub goods_of : Row → Goods
goods_of x = record { content = x.content; origin = x.origin; count = x.count }

-- what is kept of a row
abbrev pub keep : Row → KeptRow
keep x = record { slip = x.slip; state = x.state; goods = if at_home x.state then Some (goods_of x) else None }

-- the rows are numbered in turn, from n
abbrev pub NumberedFrom : ℕ → List Row → Type 0
NumberedFrom n [] = Unit {0}
NumberedFrom n (x ∷ xs) = (x.number ≡ n) × NumberedFrom (suc n) xs

-- the queue stands for this state of one list and 64 consumers
pub record Stands (k : Kept) (q : Queue) : Type 0 where
  pub lists : q.lists ≡ 1
  pub consumers : q.consumers ≡ 64
  pub sound : Sound q
  pub numbered : NumberedFrom 0 q.rows
  pub rows : k.rows ≡ map keep q.rows
  pub depth : k.depth ≡ depth q
