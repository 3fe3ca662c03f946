-- what the one-thread queue is to the history of a held queue
use Rattle.std.specs.Prelude.{◌≡◌, ℕ, ◌+◌, ◌≤◌, List, [], length}
use Rattle.queue_model.specs.declared.deeds.Deed.{Deed}
use Rattle.queue_model.specs.declared.queues.Queue.{Queue}
use Rattle.queue_model.specs.declared.rows.RowState.TheVariants.{Dequeued}
use Rattle.queue_model.specs.History.{after, Legal, is_by}
use Rattle.queue_model.specs.State.{entries, IsIn}
use Rattle.queue_model.specs.Table.{most_entries}
use Rattle.acts_core.specs.Asked.{HasDequeued}
use Rattle.acts_core.specs.Kept.{Kept, Stands}
use Rattle.acts_core.specs.Owed.{taken_any}
use Rattle.history_lock.specs.Tale.{Tale}
use Rattle.held_table.specs.declared.view.Outset.{Outset}

-- the state with 64 consumers, as a one-thread queue sees it
abbrev pub wide : Queue → Queue
wide q = record q { consumers = 64 }

-- how many rows the queue has after a history
abbrev pub rows_after : Outset → List Deed → ℕ
rows_after p ds = length (after p.opening ds).rows

-- the one-thread queue stands for the state after the history, and has room for what is left of the rows
pub record StandsAt (k : Kept) (p : Outset) (ds : List Deed) : Type 0 where
  pub stands : Stands k (wide (after p.opening ds))
  pub room : k.spare + rows_after p ds ≡ p.rows

-- a row that a caller dequeued, and has not deleted, is dequeued, and it is no other caller's to delete
abbrev pub Enders : Queue → List Deed → Type 0
Enders o ds = (h r : ℕ) → HasDequeued h r ds → IsIn (after o ds) r Dequeued × ((k : ℕ) → HasDequeued k r ds → k ≡ h)

-- What holds of every history of a held queue: it is legal, nobody takes a bell, who dequeues a row deletes it, and
-- there are never more rows than there is room for.
pub record IsHistory (p : Outset) (ds : List Deed) : Type 0 where
  pub legal : Legal p.opening ds
  pub quiet : (c : ℕ) → taken_any c ds ≡ []
  pub enders : Enders p.opening ds
  pub rows : rows_after p ds ≤ p.rows

-- The history of a one-thread queue that keeps this: allowances leave room for the entries, and shares for the rows.
abbrev pub core_tale : {Q : Type 0} → (Q → Kept) → Tale Q Outset Deed
core_tale keeps = record {
  by = is_by;
  legal = IsHistory;
  stands = λ p q ds. StandsAt (keeps q) p ds;
  allowed = λ p ds. entries (after p.opening ds);
  drawn = rows_after;
  most_allowed = λ p. most_entries;
  most_drawn = λ p. p.rows;
}
