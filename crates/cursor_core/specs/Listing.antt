-- cursors that are true of a pass, and what a call of next walked
use Rattle.std.specs.Prelude.{◌≡◌, ◌≢◌, ℕ, ◌+◌, ◌*◌, ◌-◌, ◌<◌, ◌≤◌, zero, suc, Some, List, ◌++◌, length, slice_index}
use Rattle.queue_model.specs.declared.deeds.Act.TheVariants.{Take}
use Rattle.queue_model.specs.declared.deeds.Deed.{Deed}
use Rattle.queue_model.specs.declared.queues.Queue.{Queue}
use Rattle.queue_model.specs.declared.rows.Row.{Row}
use Rattle.queue_model.specs.declared.rows.RowState.TheVariants.{Deleted}
use Rattle.queue_model.specs.declared.steps.Tried.{Tried}
use Rattle.queue_model.specs.History.{after, deed}
use Rattle.queue_model.specs.State.{row_at, rows_of, place_at}
use Rattle.acts_core.specs.Calls.{takes_down}
use Rattle.acts_core.specs.declared.cargoes.Next.{Next}
use Rattle.acts_core.specs.declared.cargoes.Next.TheVariants.{Got, Empty}
use Rattle.acts_core.specs.Lists.{Passed}
use Rattle.acts_core.specs.Moments.{JustBefore}
use Rattle.acts_core.specs.Owed.{Has}
use Rattle.acts_core.specs.Sight.{Sight, Forgotten, known}
use Rattle.acts_core.specs.Walks.{reach, IsOfList}
use Rattle.cursor_core.specs.declared.cursor.Cursor.{Cursor}
use Rattle.cursor_core.specs.Goes.{Goes}
use Rattle.scavenge_core.specs.Shown.{looks, hops}
use Rattle.cursor_core.specs.Truths.{TrueOf, TrueNow}
use Rattle.cursor_core.specs.Walking.{belled, start_of}

-- the cursor is true of the pass
abbrev pub IsTrueOf : Sight → Cursor → Type 0
IsTrueOf s k = TrueOf s.opening k.consumer k.stops s.seen

-- Of n lists from l on consumer c took the bell of each. So many rows of them, at the end, stand at or after the earlier of
-- the consumer's stop there and the bell that was taken.
abbrev pub WalkedRows : Queue → ℕ → ℕ → List ℕ → List Deed → List Deed → ℕ → ℕ → ℕ → Type 0
WalkedRows o h c stops s0 s1 l zero rows = rows ≡ 0
WalkedRows o h c stops s0 s1 l (suc n) rows =
    (begin : List Deed) × JustBefore s0 s1 (deed h (Take c l)) begin
    × ((rest : ℕ) × WalkedRows o h c stops s0 s1 (suc l) n rest
    × (rows ≡ length (rows_of (after o s1) l) - start_of (after o begin) c l (slice_index stops l) + rest))

-- The call walked the lists from l on. With n rows of them at or after the earlier of the cursor and the bell that was taken,
-- there were at most 2 n steps on states, and on links at most 4 n and two more for each list.
pub record Bounded (old new : Sight) (k : Cursor) (l : ℕ) : Type 0 where
  pub added : List Tried
  pub shown : new.shown ≡ old.shown ++ added
  pub rows : ℕ
  pub walked : WalkedRows old.opening old.caller k.consumer k.stops old.seen new.seen l (old.opening.lists - l) rows
  pub looks : looks added ≤ 2 * rows
  pub hops : hops added ≤ 4 * rows + 2 * (old.opening.lists - l)

-- Each row of list l that was there at the beginning, and is not deleted at the end, is up to stop w.
abbrev pub IsBehind : Queue → List Deed → List Deed → ℕ → ℕ → Type 0
IsBehind o s0 s1 l w =
    (e : ℕ) (x : Row) → row_at (after o s1) e ≡ Some x → x.slip.list ≡ l → x.state ≢ Deleted → Has (after o s0) e
    → place_at (after o s1) e < reach (after o s1) w

-- The call got row r: the cursor stands at it, and behind each higher list. At least one step was on a state.
pub record WalkedTo (old new : Sight) (k k' : Cursor) (r : ℕ) : Type 0 where
  pub list : ℕ
  pub there : IsOfList (known new) list r
  pub stands : slice_index k'.stops list ≡ suc r
  pub bounded : Bounded old new k list
  pub some : 0 < looks bounded.added
  pub behind :
      (m : ℕ) → list < m → m < old.opening.lists → IsBehind old.opening old.seen new.seen m (slice_index k'.stops m)
  pub others : (m : ℕ) → m < list → slice_index k'.stops m ≡ slice_index k.stops m

-- or got none: the cursor stands behind each list
pub record WalkedOut (old new : Sight) (k k' : Cursor) : Type 0 where
  pub bounded : Bounded old new k 0
  pub behind : (m : ℕ) → m < old.opening.lists → IsBehind old.opening old.seen new.seen m (slice_index k'.stops m)

abbrev pub WalksLists : {C : Type 0} → Sight → Sight → Cursor → Cursor → Next C → Type 0
WalksLists old new k k' (Got r cargo) = WalkedTo old new k k' r
WalksLists old new k k' Empty = WalkedOut old new k k'

-- the lists from l on are walked to their ends, from the first stops
pub record Done (o : Queue) (old now : Sight) (c l : ℕ) (first stops : List ℕ) : Type 0 where
  pub low : l ≤ o.lists
  pub added : List Tried
  pub goes : Goes o old now (takes_down c l (o.lists - l)) added
  pub holds : TrueNow o c stops now.seen
  pub passed :
      (m : ℕ) → l ≤ m → m < o.lists → Passed Forgotten (belled o) old.caller c old.seen now.seen m (λ y. Unit {0})
  pub rows : ℕ
  pub walked : WalkedRows o old.caller c first old.seen now.seen l (o.lists - l) rows
  pub looks : looks added ≤ 2 * rows
  pub hops : hops added ≤ 4 * rows + 2 * (o.lists - l)
  pub behind : (m : ℕ) → l ≤ m → m < o.lists → IsBehind o old.seen now.seen m (slice_index stops m)
  pub others : (m : ℕ) → m < l → slice_index stops m ≡ slice_index first m
