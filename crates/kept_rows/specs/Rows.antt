-- what is kept, row by row
use Rattle.std.specs.Prelude.{◌≡◌, ◌≢◌, ℕ, ◌+◌, ◌-◌, ◌<◌, ◌⊎◌, Bool, true, false, Option, Some, None, List, [], ◌∷◌, ◌++◌, get_or, set, length}
use Rattle.std.specs.Int.{bit_at}
use Rattle.queue_model.specs.declared.queues.Depth.{Depth}
use Rattle.queue_model.specs.declared.rows.RowState.{RowState}
use Rattle.queue_model.specs.declared.rows.RowState.TheVariants.{Available, Locked, Deleted}
use Rattle.queue_model.specs.declared.rows.Slip.{Slip}
use Rattle.row_order.specs.Order.{rank, before}
use Rattle.acts_core.specs.Kept.{Kept, KeptRow, Goods, at_home}
use Rattle.acts_core.specs.Load.{Load}
use Rattle.acts_core.specs.Sight.{Kind, Sorted, LastValue}

-- the kind of the queues that go by key, and of those that go by arrival alone
abbrev pub kind_by : Bool → Kind
kind_by true = Sorted
kind_by false = LastValue

-- one entry of this size more
abbrev pub more_deep : Depth → ℕ → Depth
more_deep d size = record { entries = d.entries + 1; bytes = d.bytes + size }

-- one entry of this size less
abbrev pub less_deep : Depth → ℕ → Depth
less_deep d size = record { entries = d.entries - 1; bytes = d.bytes - size }

-- a deleted row, in place of one that is not there
abbrev pub no_row : KeptRow
no_row = record { slip = record { id = 0; size = 0; mask = 0; list = 0; key = None }; state = Deleted; goods = None }

-- row r of what is kept
abbrev pub kept_at : Kept → ℕ → KeptRow
kept_at k r = get_or k.rows r no_row

-- the same, where row r became this one
abbrev pub with_row : Kept → ℕ → KeptRow → Kept
with_row k r x = record k { rows = set k.rows r x }

-- what goes with a cargo
abbrev pub goods_in : Load → Goods
goods_in load = record { content = load.content; origin = load.origin; count = load.count }

-- the row in this state, with these goods
abbrev pub row_in : RowState → Option Goods → KeptRow → KeptRow
row_in s goods x = record { slip = x.slip; state = s; goods = goods }

-- a new row
abbrev pub new_row : Slip → Load → KeptRow
new_row slip load = record { slip = slip; state = Available; goods = Some (goods_in load) }

-- one row more, from the spare
abbrev pub with_new : Kept → ℕ → Slip → Load → Kept
with_new k spare slip load = record k { spare = spare; rows = k.rows ++ new_row slip load ∷ [] }

-- the cargo that goes into a row agrees with its slip, and is at home in the state
abbrev pub Fitting : Slip → RowState → Option Load → Type 0
Fitting slip s None = at_home s ≡ false
Fitting slip s (Some load) = (at_home s ≡ true) × (load.id ≡ slip.id) × (load.size ≡ slip.size)

-- a cargo that comes out of a row is the row's, and none comes where it is not at home
abbrev pub CameOut : KeptRow → Option Load → Type 0
CameOut x None = at_home x.state ≡ false
CameOut x (Some load) = (load.id ≡ x.slip.id) × (load.size ≡ x.slip.size) × (x.goods ≡ Some (goods_in load))

-- what the order goes by at row r
abbrev pub rank_at : Bool → Kept → ℕ → Option (List ℕ)
rank_at by_key k r = rank by_key (kept_at k r).slip.key

-- row r comes before row s in queue order
abbrev pub Comes : Bool → Kept → ℕ → ℕ → Type 0
Comes by_key k r s = before (rank_at by_key k) r s

-- row r passes, and comes before each other row that passes
pub record FirstOf (k : Kept) (Pass : KeptRow → Type 0) (Before : ℕ → ℕ → Type 0) (r : ℕ) : Type 0 where
  pub inside : r < length k.rows
  pub passes : Pass (kept_at k r)
  pub first : (s : ℕ) → s < length k.rows → Pass (kept_at k s) → s ≢ r → Before r s

-- no row passes
abbrev pub NoneOf : Kept → (KeptRow → Type 0) → Type 0
NoneOf k Pass = (s : ℕ) → s < length k.rows → Pass (kept_at k s) → ⊥

-- nobody has the row, and the consumer's selector is true of it
pub record IsFreeTo (c : ℕ) (x : KeptRow) : Type 0 where
  pub available : x.state ≡ Available
  pub wanted : bit_at x.slip.mask c ≡ 1

-- nobody has the row
abbrev pub IsAvailable : KeptRow → Type 0
IsAvailable x = x.state ≡ Available

-- the row has the id, and is not deleted
pub record IsNamed (id : ℕ) (x : KeptRow) : Type 0 where
  pub same : x.slip.id ≡ id
  pub live : x.state ≢ Deleted

-- no row comes, none changes its slip, and none becomes available
pub record Settles (old new : Kept) : Type 0 where
  pub spare : new.spare ≡ old.spare
  pub long : length new.rows ≡ length old.rows
  pub slips : (r : ℕ) → (kept_at new r).slip ≡ (kept_at old r).slip
  pub available : (r : ℕ) → (kept_at new r).state ≡ Available → (kept_at old r).state ≡ Available
