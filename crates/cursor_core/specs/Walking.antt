-- a walk along one list, from a consumer's stop or from the bell's row
use Rattle.std.specs.Prelude.{min, ◌≡◌, ℕ, ◌+◌, ◌*◌, ◌-◌, ◌<◌, ◌≤◌, suc, Option, Some, None, true, List, [], ◌∷◌, length}
use Rattle.queue_model.specs.declared.deeds.Act.TheVariants.{Acq, Take}
use Rattle.queue_model.specs.declared.deeds.Deed.{Deed}
use Rattle.queue_model.specs.declared.queues.Bell.{Bell}
use Rattle.queue_model.specs.declared.queues.Queue.{Queue}
use Rattle.queue_model.specs.declared.steps.Tried.{Tried}
use Rattle.queue_model.specs.History.{after, deed}
use Rattle.queue_model.specs.Order.{Precedes, ByList}
use Rattle.queue_model.specs.State.{rows_of, place_at, bell_at}
use Rattle.acts_core.specs.Lists.{Gets, Passed}
use Rattle.acts_core.specs.Load.{Load}
use Rattle.acts_core.specs.Moments.{JustBefore}
use Rattle.acts_core.specs.Owed.{is_free}
use Rattle.acts_core.specs.Sight.{Listed, Plan, Sight, Forgotten}
use Rattle.acts_core.specs.Walks.{reach, IsStop, AreDeleted}
use Rattle.cursor_core.specs.Goes.{Goes}
use Rattle.scavenge_core.specs.Shown.{looks, hops}
use Rattle.cursor_core.specs.Truths.{Good}
use Rattle.cursor_core.specs.Walked.{Walked}

-- a listed queue that began with o, whose calls ring and take bells
abbrev pub belled : Queue → Plan
belled o = record { opening = o; kind = Listed; bells = true }

-- Bounds

-- the earlier of a place and a bell's
abbrev pub earlier_place : ℕ → Option Bell → ℕ
earlier_place n None = n
earlier_place n (Some b) = min n b.place

-- the first place at which a walk of list l by consumer c may look, which stood at stop u: the stop's row, or the bell's if
-- that is earlier
abbrev pub start_of : Queue → ℕ → ℕ → ℕ → ℕ
start_of q c l u = earlier_place (reach q u - 1) (bell_at q c l)

-- from a place on, up to n places, there were at most twice as many steps on states, and four times as many on links
pub record Spent (added : List Tried) (start n more : ℕ) : Type 0 where
  pub low : start ≤ n
  pub looks : looks added + 2 * start ≤ 2 * n
  pub hops : hops added + 4 * start ≤ 4 * n + more

-- Walks

-- a walk of list l by consumer c, from stop u, has come to stop w
pub record Walking (o : Queue) (old now : Sight) (c l u w : ℕ) : Type 0 where
  pub added : List Tried
  pub goes : Goes o old now (Take c l ∷ []) added
  pub begin : List Deed
  pub begins : JustBefore old.seen now.seen (deed old.caller (Take c l)) begin
  pub stop : IsStop (after o now.seen) l w
  pub walked : Walked o c l (reach (after o now.seen) w) begin now.seen
  pub start : ℕ
  pub from : start_of (after o begin) c l u ≤ start
  pub spent : Spent added start (reach (after o now.seen) w) 0

-- it is about to try row r, with one look
pub record Facing (o : Queue) (old now : Sight) (c l u r : ℕ) : Type 0 where
  pub added : List Tried
  pub goes : Goes o old now (Take c l ∷ []) added
  pub begin : List Deed
  pub begins : JustBefore old.seen now.seen (deed old.caller (Take c l)) begin
  pub stop : IsStop (after o now.seen) l (suc r)
  pub walked : Walked o c l (place_at (after o now.seen) r) begin now.seen
  pub start : ℕ
  pub from : start_of (after o begin) c l u ≤ start
  pub spent : Spent added start (suc (place_at (after o now.seen) r)) 0
  pub one : looks added + 1 + 2 * start ≤ 2 * suc (place_at (after o now.seen) r)

-- What a walk of list l from stop u cost. With n rows of the list at or after the earlier of the stop and the bell that was
-- taken, there were at most 2 n steps on states, and 4 n + 2 on links.
pub record Spends (o : Queue) (old new : Sight) (c l u : ℕ) (added : List Tried) : Type 0 where
  pub begin : List Deed
  pub begins : JustBefore old.seen new.seen (deed old.caller (Take c l)) begin
  pub looks : looks added ≤ 2 * (length (rows_of (after o new.seen) l) - start_of (after o begin) c l u)
  pub hops : hops added ≤ 4 * (length (rows_of (after o new.seen) l) - start_of (after o begin) c l u) + 2

-- it acquired row r, at which it then stands
pub record WalkGot (o : Queue) (old new : Sight) (c l u w r : ℕ) (load : Load) : Type 0 where
  pub added : List Tried
  pub goes : Goes o old new (Take c l ∷ Acq r ∷ []) added
  pub stands : w ≡ suc r
  pub good : Good o c l w new.seen
  pub gets : Gets o old.caller old.seen new.seen r l load (λ x. is_free c x ≡ true)
  pub passed :
      Passed Forgotten (belled o) old.caller c old.seen new.seen l (λ y. Precedes ByList (after o new.seen) y gets.hands.row)
  pub spends : Spends o old new c l u added
  pub some : 0 < looks added

-- it came to the end: the rows behind its stop are deleted
pub record WalkEnd (o : Queue) (old new : Sight) (c l u w : ℕ) : Type 0 where
  pub added : List Tried
  pub goes : Goes o old new (Take c l ∷ []) added
  pub good : Good o c l w new.seen
  pub passed : Passed Forgotten (belled o) old.caller c old.seen new.seen l (λ y. Unit {0})
  pub spends : Spends o old new c l u added
  pub gone : (m : ℕ) → AreDeleted (after o new.seen) l (reach (after o new.seen) w) m

abbrev pub WalksTo : {C : Type 0} → (C → Load) → Queue → Sight → Sight → ℕ → ℕ → ℕ → ℕ → Option (ℕ × C) → Type 0
WalksTo load o old new c l u w None = WalkEnd o old new c l u w
WalksTo load o old new c l u w (Some d) = WalkGot o old new c l u w d.0 (load d.1)

-- the row to try next; none where the end was shown
abbrev pub Faces : Queue → Sight → Sight → ℕ → ℕ → ℕ → ℕ → Option ℕ → Type 0
Faces o old now c l u w None = WalkEnd o old now c l u w
Faces o old now c l u w (Some r) = Facing o old now c l u r

-- the bell's row, where it is at or before the stop
abbrev pub Rung : Queue → Sight → Sight → ℕ → ℕ → ℕ → ℕ → Option ℕ → Type 0
Rung o old now c l u w None = Walking o old now c l u w
Rung o old now c l u w (Some r) = Facing o old now c l u r
