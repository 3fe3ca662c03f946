-- the passes and targets of actors, given back: each pass is joined into its queue's boss's, and each target is put in
-- its place in the roster
use Rattle.std.specs.Prelude.{◌≡◌, ℕ, ◌+◌, ◌<◌, Some, None, List, [], length, slice_get}
use mathlib.Core.List.{IsPrefix, Mem}
use Rattle.queue_model.specs.declared.queues.Queue.{Queue}
use Rattle.queue_model.specs.History.{own}
use Rattle.acts_core.specs.Sight.{Sight}
use Rattle.any_queue.specs.Parting.{IsJoined}
use Rattle.target_core.specs.Seats.{Seats, seat_at}
use Rattle.phase_actors.specs.Passes.{IsBoss}

-- Passes

-- a pass of caller h on a queue that began with this opening; it speaks for no other caller
pub record IsOfCaller (start : Queue) (h : ℕ) (t : Sight) : Type 0 where
  pub opening : t.opening ≡ start
  pub caller : t.caller ≡ h
  pub ended : t.ended ≡ []

-- caller h's passes of the queues that the bosses' are of
pub record AreOfCaller (bosses : List Sight) (h : ℕ) (passes : List Sight) : Type 0 where
  pub as_many : length passes ≡ length bosses
  pub each : (q : ℕ) (s t : Sight)
      → slice_get bosses q ≡ Some s → slice_get passes q ≡ Some t → IsOfCaller s.opening h t

-- each pass is of the queue that the boss's is of
abbrev pub SameOpenings : List Sight → List Sight → Type 0
SameOpenings bosses passes =
    (q : ℕ) (s t : Sight) → slice_get bosses q ≡ Some s → slice_get passes q ≡ Some t → t.opening ≡ s.opening

-- each of these passes was joined into the boss's in its place
pub record AreJoined (olds gones news : List Sight) : Type 0 where
  pub as_many : length news ≡ length olds
  pub each : (q : ℕ) (s g t : Sight)
      → slice_get olds q ≡ Some s → slice_get gones q ≡ Some g → slice_get news q ≡ Some t
      → IsJoined s g t

-- What the boss's pass of queue q is when the passes of these actors, the first of which is caller 1, were joined into
-- it: it speaks for each of them, knows what each had seen, and no other acts of theirs; and nobody else has done
-- anything.
pub record HasJoined (q : ℕ) (passes : List (List Sight)) (old new : Sight) : Type 0 where
  pub boss : IsBoss old.opening old.made new.ended new
  pub every : (i : ℕ) → i < length passes → Mem (i + 1) new.ended
  pub tells : (i : ℕ) (ts : List Sight) (t : Sight)
      → slice_get passes i ≡ Some ts → slice_get ts q ≡ Some t → IsPrefix t.seen new.seen
  pub whole : (i : ℕ) (ts : List Sight) (t : Sight)
      → slice_get passes i ≡ Some ts → slice_get ts q ≡ Some t
      → own (i + 1) new.seen ≡ own (i + 1) t.seen

-- and so of each queue
pub record HaveJoined (passes : List (List Sight)) (olds news : List Sight) : Type 0 where
  pub as_many : length news ≡ length olds
  pub each : (q : ℕ) (s t : Sight)
      → slice_get olds q ≡ Some s → slice_get news q ≡ Some t → HasJoined q passes s t

-- Targets

-- The rosters of actors were emptied into one: a target that stood in one of them alone stands there now, and where
-- none stood in any the place is as it was.
pub record HaveReturned (old : Seats) (owns : List Seats) (new : Seats) : Type 0 where
  pub given : (c i : ℕ) (own : Seats) → slice_get owns i ≡ Some own → seat_at old c ≡ None
      → ((j : ℕ) (other : Seats)
      → slice_get owns j ≡ Some other → (j ≡ i → ⊥) → seat_at other c ≡ None)
      → seat_at new c ≡ seat_at own c
  pub kept : (c : ℕ)
      → ((j : ℕ) (other : Seats) → slice_get owns j ≡ Some other → seat_at other c ≡ None)
      → seat_at new c ≡ seat_at old c
