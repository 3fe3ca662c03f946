-- what holds of the phases of each script that has no cause
use Rattle.std.specs.Prelude.{◌≡◌, ℕ, ◌<◌, ◌≤◌, Bool, true, List, length, map, flat_map, IsSomeAnd, slice_get}
use Rattle.std.specs.List.{AllByRecursion, IsDistinct, count_by}
use Rattle.std.specs.Str.{bytes_eq}
use Rattle.defs_read.specs.Defined.{Defined, consumers_in}
use Rattle.script_read.specs.Phases.{Actors}
use Rattle.script_read.specs.Scripts.{is_put_of, most_actors}
use Rattle.script_read.specs.declared.lines.Op.{Op}
use Rattle.script_read.specs.declared.lines.What.{What}
use Rattle.script_read.specs.declared.lines.What.TheVariants.{Put, Take, Close, Ack, Release, Lock, Unlock, Steal, Begin, Commit, Rollback}

-- the number is that of a consumer of this actor
abbrev pub HasConsumer : List Defined → List ℕ → ℕ → Type 0
HasConsumer queues actor c = IsSomeAnd (slice_get (consumers_in queues) c) (λ consumer. consumer.actor ≡ actor)

-- the queue or the consumer that the actor's line names is defined
abbrev pub IsDefined : List Defined → List ℕ → What → Type 0
IsDefined queues actor (Put q m) = q < length queues
IsDefined queues actor (Take c) = HasConsumer queues actor c
IsDefined queues actor (Close c) = HasConsumer queues actor c
IsDefined queues actor (Ack q id) = q < length queues
IsDefined queues actor (Release q id) = q < length queues
IsDefined queues actor (Lock q id) = q < length queues
IsDefined queues actor (Unlock q id) = q < length queues
IsDefined queues actor (Steal q id) = q < length queues
IsDefined queues actor Begin = Unit {0}
IsDefined queues actor Commit = Unit {0}
IsDefined queues actor Rollback = Unit {0}

-- a persistent message is put only where there is a journal
abbrev pub IsKept : Bool → What → Type 0
IsKept journal (Put q m) = m.persistent ≡ true → journal ≡ true
IsKept journal (Take c) = Unit {0}
IsKept journal (Close c) = Unit {0}
IsKept journal (Ack q id) = Unit {0}
IsKept journal (Release q id) = Unit {0}
IsKept journal (Lock q id) = Unit {0}
IsKept journal (Unlock q id) = Unit {0}
IsKept journal (Steal q id) = Unit {0}
IsKept journal Begin = Unit {0}
IsKept journal Commit = Unit {0}
IsKept journal Rollback = Unit {0}

-- a line of the actor with this name
pub record IsOpOf (queues : List Defined) (journal : Bool) (name : List ℕ) (op : Op) : Type 0 where
  pub actor : op.actor ≡ name
  pub defined : IsDefined queues name op.what
  pub kept : IsKept journal op.what

-- an actor's lines are its own
pub record HasOwnOps (queues : List Defined) (journal : Bool) (actor : List ℕ × List Op) : Type 0 where
  pub own : AllByRecursion (IsOpOf queues journal actor.0) actor.1

-- a phase has at most 32 actors with distinct names, each with lines of its own
pub record IsAllowedPhase (queues : List Defined) (journal : Bool) (actors : Actors) : Type 0 where
  pub few : length actors ≤ most_actors
  pub distinct : IsDistinct bytes_eq (map (λ actor. actor.0) actors)
  pub own : AllByRecursion (HasOwnOps queues journal) actors

-- all lines of a phase, and those of all phases
abbrev pub ops_in : Actors → List Op
ops_in actors = flat_map (λ actor. actor.1) actors

abbrev pub all_ops : List Actors → List Op
all_ops phases = flat_map ops_in phases

-- each phase is allowed, and no id is put to a queue twice
pub record AreAllowedPhases (queues : List Defined) (journal : Bool) (phases : List Actors) : Type 0 where
  pub each : AllByRecursion (IsAllowedPhase queues journal) phases
  pub once : (queue id : ℕ) → count_by (λ op. is_put_of queue id op.what) (all_ops phases) ≤ 1
