-- one turn of a pass: what a call does while the pass has the one-thread queue
use Rattle.std.specs.Prelude.{◌≡◌, ℕ, ◌+◌, ◌-◌, List, [], ◌++◌}
use Rattle.queue_model.specs.declared.deeds.Deed.{Deed}
use Rattle.queue_model.specs.declared.queues.Queue.{Queue}
use Rattle.queue_model.specs.History.{after, deeds_of}
use Rattle.queue_model.specs.State.{size_at}
use Rattle.acts_core.specs.Calls.{Call, CallDequeue, Answer, IsGot, IsReleased, IsFreed}
use Rattle.acts_core.specs.Held.{Means}
use Rattle.acts_core.specs.Kept.{Kept}
use Rattle.acts_core.specs.Meaning.{allowance_after}
use Rattle.acts_core.specs.Serves.{held_acts, rows_of_call}
use Rattle.acts_core.specs.Sight.{Kind}
use Rattle.history_lock.specs.declared.view.View.{View}
use Rattle.history_lock.specs.Plays.{Later}
use Rattle.held_table.specs.declared.view.Outset.{Outset}
use Rattle.held_table.specs.Tales.{core_tale, IsHistory}

-- the answer without what a reply does not tell: the list of a row that was got, the mask of one that was released, and
-- the size of one that was dequeued
abbrev pub plain : Answer → Answer
plain (IsGot r l load) = IsGot r 0 load
plain (IsReleased mask) = IsReleased 0
plain (IsFreed size) = IsFreed 0
plain a = a

-- the answer with the size of the row that was dequeued, as it stands in the queue
abbrev pub sized : Queue → Call → Answer → Answer
sized q (CallDequeue r) (IsFreed size) = IsFreed (size_at q r)
sized q call a = a

-- the deeds of a call that is served in this state with this answer
abbrev pub deeds_in : Queue → ℕ → Call → Answer → List Deed
deeds_in q h call answer = deeds_of h (held_acts call (sized q call answer))

module _ {Q : Type 0} (keeps : Q → Kept) where
  -- A call was served at one point of the history: behind all that the pass has seen then stand the call's own deeds.
  pub record Turned (kind : Kind) (p : Outset) (h : ℕ) (v w : View Outset Deed) (call : Call) (answer : Answer) : Type 0 where
    pub before : List Deed
    pub later : Later (core_tale keeps) v before
    pub seen : w.seen ≡ before ++ deeds_of h (held_acts call answer)
    pub history : IsHistory p w.seen
    pub means : Means kind (after p.opening before) h call answer
    pub view : w ≡ record v { allowance = allowance_after call v.allowance; share = v.share - rows_of_call call; turns = v.turns + 1; told = []; seen = w.seen }

  -- the pass had a turn in which nothing was done
  pub record Passed (p : Outset) (v w : View Outset Deed) : Type 0 where
    pub later : Later (core_tale keeps) v w.seen
    pub history : IsHistory p w.seen
    pub view : w ≡ record v { turns = v.turns + 1; told = []; seen = w.seen }
