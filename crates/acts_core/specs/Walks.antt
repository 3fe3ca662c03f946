-- walks along the lists of a listed queue, from the head of each
use Rattle.std.specs.Prelude.{◌≡◌, ◌≢◌, ℕ, ◌<◌, ◌≤◌, zero, suc, true, false, Option, Some, None, List, [], ◌∷◌, length}
use mathlib.Core.List.{IsPrefix}
use Rattle.queue_model.specs.declared.deeds.Act.{Act}
use Rattle.queue_model.specs.declared.deeds.Deed.{Deed}
use Rattle.queue_model.specs.declared.queues.Queue.{Queue}
use Rattle.queue_model.specs.declared.rows.Row.{Row}
use Rattle.queue_model.specs.declared.rows.RowState.TheVariants.{Deleted}
use Rattle.queue_model.specs.declared.steps.Node.{Node}
use Rattle.queue_model.specs.declared.steps.Node.TheVariants as nodes
use Rattle.queue_model.specs.declared.steps.Tried.{Tried}
use Rattle.queue_model.specs.History.{after}
use Rattle.queue_model.specs.State.{row_at, place_at}
use Rattle.acts_core.specs.Lists.{Begins, EachDue}
use Rattle.acts_core.specs.Moments.{Between, IsRow}
use Rattle.acts_core.specs.Owed.{is_available, is_free}
use Rattle.acts_core.specs.Sight.{Sight, Evidence, Showed, Starts, on_head}
use Rattle.acts_core.specs.Steps.{Stepped, SameRights, NoHead, NoHeads}

-- What a walk looks for

-- what a walk asks of a row
pub data Ask : Type 0 where
  -- that it is free to consumer c
  FreeTo : ℕ → Ask
  -- that it is available
  Ready : Ask
  -- that it is a message of this id, and not deleted
  Named : ℕ → Ask

-- the row is not what is asked for
abbrev pub Fails : Ask → Row → Type 0
Fails (FreeTo c) x = is_free c x ≡ false
Fails Ready x = is_available x.state ≡ false
Fails (Named id) x = x.slip.id ≡ id → x.state ≡ Deleted

-- row r was not what is asked for at some moment since the beginning
pub record FailedOnce (o : Queue) (ask : Ask) (begin seen : List Deed) (r : ℕ) : Type 0 where
  pub moment : List Deed
  pub later : IsPrefix begin moment
  pub early : IsPrefix moment seen
  pub row : Row
  pub found : row_at (after o moment) r ≡ Some row
  pub fails : Fails ask row

-- so it was with each row of list l that was there at the beginning and is Before
abbrev pub Failed : Evidence → Queue → List Deed → List Deed → Ask → ℕ → (Row → Type 0) → Type 0
Failed v o s0 s1 ask l Before =
    EachDue o l (Begins v false 0 0 l s0 s1) (λ b y. Before y → FailedOnce o ask b s1 y.number)

-- so it was with each of the first n places of list l at the beginning
abbrev pub FailedBelow : Queue → Ask → ℕ → ℕ → List Deed → List Deed → Type 0
FailedBelow o ask l n begin seen =
    (y : Row) → IsRow (after o begin) y → y.slip.list ≡ l → place_at (after o begin) y.number < n
    → FailedOnce o ask begin seen y.number

-- Single steps of a walk

-- how many places a stop leaves behind it: the stop 0 is the head of a list, and suc r is row r
abbrev pub reach : Queue → ℕ → ℕ
reach q zero = 0
reach q (suc r) = suc (place_at q r)

-- the node of a stop
abbrev pub node_at : ℕ → ℕ → Node
node_at l zero = nodes.Head l
node_at l (suc r) = nodes.Row r

-- the queue has row r, and it is in list l
abbrev pub IsOfList : Queue → ℕ → ℕ → Type 0
IsOfList q l r = (y : Row) × (row_at q r ≡ Some y) × (y.slip.list ≡ l)

-- a stop of list l
abbrev pub IsStop : Queue → ℕ → ℕ → Type 0
IsStop q l zero = Unit {0}
IsStop q l (suc r) = IsOfList q l r

-- each row of list l at the places from n on, but before place m, is deleted
abbrev pub AreDeleted : Queue → ℕ → ℕ → ℕ → Type 0
AreDeleted q l n m =
    (e : ℕ) (x : Row) → row_at q e ≡ Some x → x.slip.list ≡ l → n ≤ place_at q e → place_at q e < m
    → x.state ≡ Deleted

-- the link of a stop of list l was loaded, as the only step
pub record Follows (old new : Sight) (l w : ℕ) : Type 0 where
  pub entry : Tried
  pub steps : Stepped old new [] (entry ∷ [])
  pub rights : SameRights old new
  pub when : entry.length ≡ length new.seen
  pub head : w ≡ 0 → on_head l entry.step ≡ true
  pub other : (m : ℕ) → m ≢ l → on_head m entry.step ≡ false

-- and it names this row: the rows between are deleted; or no row: all behind the stop are
abbrev pub FollowsTo : Sight → Sight → ℕ → ℕ → Option ℕ → Type 0
FollowsTo old new l w None =
    Follows old new l w
    × ((m : ℕ) → AreDeleted (after old.opening new.seen) l (reach (after old.opening new.seen) w) m)
FollowsTo old new l w (Some r) =
    Follows old new l w × IsOfList (after old.opening new.seen) l r
    × (reach (after old.opening new.seen) w ≤ place_at (after old.opening new.seen) r)
    × AreDeleted (after old.opening new.seen) l (reach (after old.opening new.seen) w) (place_at (after old.opening new.seen) r)

-- row r was tried and was not what is asked for, in the state that is then known
pub record Misses (old new : Sight) (ask : Ask) (r : ℕ) : Type 0 where
  pub added : List Tried
  pub steps : Stepped old new [] added
  pub rights : SameRights old new
  pub heads : NoHeads added
  pub fails : (x : Row) → row_at (after old.opening new.seen) r ≡ Some x → Fails ask x

-- Walks of one list

-- a walk of list l has passed its first n places; its first step was on the list's head link
pub record Walking (old now : Sight) (ask : Ask) (l n : ℕ) : Type 0 where
  pub added : List Tried
  pub begin : List Deed
  pub steps : Stepped old now [] added
  pub rights : SameRights old now
  pub between : Between old.seen now.seen begin
  pub starts : Starts (Showed added) l begin
  pub others : (m : ℕ) → m ≢ l → NoHead m added
  pub below : FailedBelow old.opening ask l n begin now.seen

-- it has come to row r
pub record Facing (old now : Sight) (ask : Ask) (l r : ℕ) : Type 0 where
  pub there : IsOfList (after old.opening now.seen) l r
  pub walking : Walking old now ask l (place_at (after old.opening now.seen) r)

-- it has come to the end
pub record Ended (old now : Sight) (ask : Ask) (l : ℕ) : Type 0 where
  pub added : List Tried
  pub steps : Stepped old now [] added
  pub rights : SameRights old now
  pub others : (m : ℕ) → m ≢ l → NoHead m added
  pub failed : Failed (Showed added) old.opening old.seen now.seen ask l (λ y. Unit {0})

-- it has come to this row, or to the end
abbrev pub Faces : Sight → Sight → Ask → ℕ → Option ℕ → Type 0
Faces old now ask l None = Ended old now ask l
Faces old now ask l (Some r) = Facing old now ask l r

-- it ended at row r with these acts, and passed the places before
pub record Reached (old new : Sight) (ask : Ask) (l r : ℕ) (acts : List Act) : Type 0 where
  pub added : List Tried
  pub steps : Stepped old new acts added
  pub rights : SameRights old new
  pub others : (m : ℕ) → m ≢ l → NoHead m added
  pub failed :
      Failed (Showed added) old.opening old.seen new.seen ask l
      (λ y. place_at (after old.opening new.seen) y.number < place_at (after old.opening new.seen) r)

-- Walks of several lists

-- the lists from low on, up to and without high, were walked to their ends
pub record Done (old now : Sight) (ask : Ask) (low high : ℕ) : Type 0 where
  pub added : List Tried
  pub steps : Stepped old now [] added
  pub rights : SameRights old now
  pub lower : (m : ℕ) → m < low → NoHead m added
  pub higher : (m : ℕ) → high ≤ m → NoHead m added
  pub failed :
      (m : ℕ) → low ≤ m → m < high
      → Failed (Showed added) old.opening old.seen now.seen ask m (λ y. Unit {0})

-- and then list l was walked to row r, with these acts
pub record Stopped (old new : Sight) (ask : Ask) (low high l r : ℕ) (acts : List Act) : Type 0 where
  pub added : List Tried
  pub steps : Stepped old new acts added
  pub rights : SameRights old new
  pub failed :
      (m : ℕ) → low ≤ m → m < high
      → Failed (Showed added) old.opening old.seen new.seen ask m (λ y. Unit {0})
  pub last :
      Failed (Showed added) old.opening old.seen new.seen ask l
      (λ y. place_at (after old.opening new.seen) y.number < place_at (after old.opening new.seen) r)
