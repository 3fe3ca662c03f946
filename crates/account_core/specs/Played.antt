-- what a queue was in a phase
use Rattle.std.specs.Prelude.{◌≡◌, ℕ, ◌+◌, ◌<◌, ◌≤◌, Some, List, [], length, map, slice_get}
use Rattle.std.specs.List.{AllByRecursion}
use mathlib.Core.List.{IsPrefix}
use Rattle.queue_model.specs.declared.deeds.Deed.{Deed}
use Rattle.queue_model.specs.declared.queues.Queue.{Queue}
use Rattle.queue_model.specs.declared.rows.Row.{Row}
use Rattle.queue_model.specs.History.{after, Legal, own, deeds_of}
use Rattle.queue_model.specs.State.{row_at}
use Rattle.acts_core.specs.Calls.{Call, Answer}
use Rattle.acts_core.specs.Chains.{Made, Chain, acts_in}
use Rattle.acts_core.specs.Rest.{Rests}
use Rattle.acts_core.specs.Sight.{Build, Plan, Sight}
use Rattle.line_core.specs.Runs.{calls_on, RanOn}
use Rattle.account_core.specs.Stories.{Story, calls_of}

-- a queue in a phase: its plan, with the opening, and the history that its boss had seen when it was closed
pub record Played : Type 0 where
  pub plan : Plan
  pub history : List Deed

-- how the queue was left
abbrev pub rest_of : Played → Queue
rest_of p = after p.plan.opening p.history

-- a deed of one of n actors, which are the callers from 1 on
pub record IsByActor (n : ℕ) (d : Deed) : Type 0 where
  pub first : 0 < d.caller
  pub last : d.caller ≤ n

-- caller h made these calls, in this order, each with its meaning between two beginnings of the history; and its acts
-- there are those of the calls, each once and in order
pub record Makes (p : Plan) (h : ℕ) (history : List Deed) (calls : List (Call × Answer)) : Type 0 where
  pub made : List Made
  pub same : map (λ m. (m.call, m.answer)) made ≡ calls
  pub chain : Chain p h [] made history
  pub own_acts : own h history ≡ deeds_of h (acts_in p made)

-- Queue q in a phase of these stories: one legal history, in which each actor made the calls of its lines and did
-- nothing else, and nobody else did anything; and no row is left locked or dequeued.
pub record IsPlayed (q : ℕ) (stories : List Story) (p : Played) : Type 0 where
  pub legal : Legal p.plan.opening p.history
  pub callers : AllByRecursion (IsByActor (length stories)) p.history
  pub makes : (i : ℕ) (s : Story) → slice_get stories i ≡ Some s
      → Makes p.plan (i + 1) p.history (calls_on q (calls_of s))
  pub rests : (r : ℕ) (x : Row) → row_at (rest_of p) r ≡ Some x → Rests x.state

-- An actor's pass of a queue, before its first call and after its last one: it began with no act of its own, and when
-- it was joined it had seen all of them.
pub record Joined (build : Build) (opening : Queue) (h : ℕ) (history : List Deed) (calls : List (Call × Answer)) :
    Type 0 where
  pub old : Sight
  pub new : Sight
  pub opens : old.opening ≡ opening
  pub caller : old.caller ≡ h
  pub fresh : own h old.seen ≡ []
  pub ran : RanOn build calls old new
  pub joined : IsPrefix new.seen history
  pub whole : own h history ≡ own h new.seen

-- the queue when all passes were joined: its boss had seen one legal history, in which the actors alone have acts
pub record IsGathered (q : ℕ) (stories : List Story) (build : Build) (opening : Queue) (history : List Deed) :
    Type 0 where
  pub legal : Legal opening history
  pub callers : AllByRecursion (IsByActor (length stories)) history
  pub passes : (i : ℕ) (s : Story) → slice_get stories i ≡ Some s
      → Joined build opening (i + 1) history (calls_on q (calls_of s))

-- the queue when it was closed: all passes were joined, and no row is left locked or dequeued
pub record IsClosed (q : ℕ) (stories : List Story) (build : Build) (opening : Queue) (history : List Deed) :
    Type 0 where
  pub gathered : IsGathered q stories build opening history
  pub rests : (r : ℕ) (x : Row) → row_at (after opening history) r ≡ Some x → Rests x.state
