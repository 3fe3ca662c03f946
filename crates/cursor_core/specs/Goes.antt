-- single steps of a walk, as contracts see them
use Rattle.std.specs.Prelude.{◌≡◌, ℕ, suc, ◌+◌, ◌*◌, ◌≤◌, Option, Some, None, true, List, [], ◌∷◌, ◌++◌, length}
use Rattle.std.specs.Option.{option_map}
use mathlib.Core.List.{IsPrefix}
use Rattle.queue_model.specs.declared.deeds.Act.{Act}
use Rattle.queue_model.specs.declared.deeds.Act.TheVariants.{Acq, Take}
use Rattle.queue_model.specs.declared.deeds.Deed.{Deed}
use Rattle.queue_model.specs.declared.queues.Queue.{Queue}
use Rattle.queue_model.specs.declared.steps.Tried.{Tried}
use Rattle.queue_model.specs.History.{after, deed}
use Rattle.queue_model.specs.State.{rows_of, place_at, bell_at}
use Rattle.acts_core.specs.Load.{Load}
use Rattle.acts_core.specs.Moments.{HandsOut}
use Rattle.acts_core.specs.Owed.{IsBusy, is_free}
use Rattle.acts_core.specs.Sight.{Sight}
use Rattle.acts_core.specs.Steps.{Stepped, SameRights}
use Rattle.acts_core.specs.Walks.{reach, IsOfList, AreDeleted}
use Rattle.scavenge_core.specs.Shown.{looks, hops}

-- The caller of a pass of a queue that began with o did these acts and no others, and the pass tried these steps.
pub record Goes (o : Queue) (old new : Sight) (acts : List Act) (added : List Tried) : Type 0 where
  pub begun : old.opening ≡ o
  pub steps : Stepped old new acts added
  pub rights : SameRights old new

-- the last deed that was seen is the caller's, and was done at this moment
pub record LastDid (old new : Sight) (a : Act) (moment : List Deed) : Type 0 where
  pub later : IsPrefix old.seen moment
  pub whole : moment ++ deed old.caller a ∷ [] ≡ new.seen

-- the bell of consumer c at list l was taken, and was of this row, if it was rung
pub record TookBell (o : Queue) (old new : Sight) (c l : ℕ) (row : Option ℕ) : Type 0 where
  pub added : List Tried
  pub goes : Goes o old new (Take c l ∷ []) added
  pub moment : List Deed
  pub did : LastDid old new (Take c l) moment
  pub bell : row ≡ option_map (λ b. b.row) (bell_at (after o moment) c l)
  pub looks : looks added ≡ 0
  pub hops : hops added ≡ 0

-- the place of row r was looked up
pub record KnowsPlace (o : Queue) (old new : Sight) (r place : ℕ) : Type 0 where
  pub added : List Tried
  pub goes : Goes o old new [] added
  pub same : place ≡ place_at (after o new.seen) r
  pub looks : looks added ≡ 0
  pub hops : hops added ≡ 0

-- a run of deleted rows behind stop w of list l was stepped over, up to row r
pub record RunsTo (o : Queue) (old new : Sight) (l w r : ℕ) : Type 0 where
  pub added : List Tried
  pub goes : Goes o old new [] added
  pub there : IsOfList (after o new.seen) l r
  pub behind : reach (after o new.seen) w ≤ place_at (after o new.seen) r
  pub gone : AreDeleted (after o new.seen) l (reach (after o new.seen) w) (place_at (after o new.seen) r)
  pub looks : looks added + reach (after o new.seen) w ≤ suc (place_at (after o new.seen) r)
  pub hops : hops added + 3 * reach (after o new.seen) w ≤ 3 * suc (place_at (after o new.seen) r) + 1

-- or up to the end
pub record RunsOut (o : Queue) (old new : Sight) (l w : ℕ) : Type 0 where
  pub added : List Tried
  pub goes : Goes o old new [] added
  pub gone : (m : ℕ) → AreDeleted (after o new.seen) l (reach (after o new.seen) w) m
  pub looks : looks added + reach (after o new.seen) w ≤ length (rows_of (after o new.seen) l)
  pub hops : hops added + 3 * reach (after o new.seen) w ≤ 3 * length (rows_of (after o new.seen) l) + 1

abbrev pub Runs : Queue → Sight → Sight → ℕ → ℕ → Option ℕ → Type 0
Runs o old new l w None = RunsOut o old new l w
Runs o old new l w (Some r) = RunsTo o old new l w r

-- row r was free to consumer c and was acquired, by one exchange of its state
pub record Takes (o : Queue) (old new : Sight) (c r : ℕ) (load : Load) : Type 0 where
  pub added : List Tried
  pub goes : Goes o old new (Acq r ∷ []) added
  pub moment : List Deed
  pub did : LastDid old new (Acq r) moment
  pub hands : HandsOut (after o moment) r load
  pub free : is_free c hands.row ≡ true
  pub looks : looks added ≡ 1
  pub hops : hops added ≡ 0

-- or was not free to it; its state was looked at once at most
pub record Leaves (o : Queue) (old new : Sight) (c r : ℕ) : Type 0 where
  pub added : List Tried
  pub goes : Goes o old new [] added
  pub busy : IsBusy (after o new.seen) c r
  pub looks : looks added ≤ 1
  pub hops : hops added ≡ 0

abbrev pub TriesRow : Queue → Sight → Sight → ℕ → ℕ → Option Load → Type 0
TriesRow o old new c r None = Leaves o old new c r
TriesRow o old new c r (Some load) = Takes o old new c r load
