-- what becomes of the rows of a queue whose passes were joined, and what can be told of it
use Rattle.std.specs.Prelude.{◌≡◌, ℕ, ◌+◌, ◌≤◌, Bool, ◌==◌, Some, List, slice_get}
use Rattle.std.specs.List.{All}
use Rattle.queue_model.specs.declared.deeds.Deed.{Deed}
use Rattle.queue_model.specs.declared.queues.Queue.{Queue}
use Rattle.queue_model.specs.declared.rows.Row.{Row}
use Rattle.queue_model.specs.History.{after}
use Rattle.queue_model.specs.Sound.{IsOpening}
use Rattle.queue_model.specs.State.{row_at}
use Rattle.acts_core.specs.Rest.{Rests}
use Rattle.acts_core.specs.Sight.{Build}
use Rattle.defs_read.specs.Defined.{Defined}
use Rattle.script_read.specs.Allowed.{IsAllowedPhase}
use Rattle.script_read.specs.Phases.{Actors}
use Rattle.target_core.specs.Seats.{Seats}
use Rattle.phase_text.specs.Logs.{FitsLog, FitsRest}
use Rattle.phase_text.specs.declared.logs.Log.{Log}
use Rattle.phase_text.specs.declared.logs.Rest.{Rest}
use Rattle.account_core.specs.Accounts.{Account}
use Rattle.account_core.specs.Carry.{Opens, handed_on}
use Rattle.account_core.specs.Counting.{entered_by, puts_by, with_ids}
use Rattle.account_core.specs.Phases.{IsPhase}
use Rattle.account_core.specs.Played.{Played, IsGathered, rest_of}
use Rattle.account_core.specs.Stories.{Story, IsStory}
use Rattle.account_core.specs.Texts.{LogsTell, RestsTell, actor_names, queue_names}

-- each of these is a story
abbrev pub AreStories : List Defined → List Story → Type 0
AreStories defs stories = (i : ℕ) (s : Story) → slice_get stories i ≡ Some s → IsStory defs s

-- no id is twice among the rows that queue q began with and the messages that these stories put
abbrev pub PutsOnce : ℕ → List Story → Queue → Type 0
PutsOnce q stories opening =
    (id : ℕ) → with_ids (λ i. i == id) opening.rows + puts_by q (λ i. i == id) stories ≤ 1

-- Counts

-- each row of a queue was there when it began, or a line put it there, and that put was admitted
abbrev pub RowsCount : Type 0
RowsCount =
    (defs : List Defined) (q : ℕ) (stories : List Story) (build : Build) (opening : Queue)
    (history : List Deed) (test : ℕ → Bool)
    → AreStories defs stories → IsGathered q stories build opening history
    → with_ids test (after opening history).rows
    ≡ with_ids test opening.rows + entered_by q test stories

-- no more messages were admitted than the lines put
abbrev pub FewEntered : Type 0
FewEntered = (q : ℕ) (test : ℕ → Bool) (stories : List Story) → entered_by q test stories ≤ puts_by q test stories

-- a queue began with as many rows of these ids as were handed to it
abbrev pub OpensCount : Type 0
OpensCount =
    (def : Defined) (rows : List Row) (p : Played) (test : ℕ → Bool)
    → Opens def rows p.plan → with_ids test p.plan.opening.rows ≡ with_ids test rows

-- and it hands on no more than it has
abbrev pub HandsOnCount : Type 0
HandsOnCount =
    (p : Played) (test : ℕ → Bool)
    → with_ids test (handed_on p) ≤ with_ids test (rest_of p).rows

-- Rests

-- When all actors are done, where no id is twice, no row is locked by anybody, or between its dequeue and
-- its deletion.
abbrev pub Settles : Type 0
Settles =
    (defs : List Defined) (q : ℕ) (stories : List Story) (build : Build) (opening : Queue)
    (history : List Deed) (r : ℕ) (x : Row)
    → IsOpening opening → AreStories defs stories → IsGathered q stories build opening history
    → PutsOnce q stories opening → row_at (after opening history) r ≡ Some x → Rests x.state

-- Names

-- What is told of a phase of allowed lines can be printed: each caller that it names is one of the actors,
-- and the bytes of each queue have a sum of 64 bits.
abbrev pub StatesNamed : Type 0
StatesNamed =
    (defs : List Defined) (rows : List (List Row)) (actors : Actors) (journal : Bool) (a : Account)
    (seats seats' : Seats) (logs : List Log) (rests : List Rest)
    → IsAllowedPhase defs journal actors → IsPhase defs rows actors a seats seats'
    → LogsTell logs a.stories → RestsTell rests defs a.queues
    → All (FitsLog (queue_names defs) (actor_names a.stories)) logs
    × All (FitsRest (actor_names a.stories)) rests
