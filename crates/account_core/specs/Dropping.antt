-- what the answers of a story tell of the entries that its puts dropped
use Rattle.std.specs.Prelude.{◌≡◌, ℕ, Some, List, [], flat_map, slice_get, slice_range}
use Rattle.std.specs.List.{AllByRecursion}
use Rattle.queue_model.specs.declared.queues.Queue.{Queue}
use Rattle.queue_model.specs.declared.rows.Row.{Row}
use Rattle.queue_model.specs.declared.rows.RowState.TheVariants.{Deleted}
use Rattle.queue_model.specs.State.{row_at}
use Rattle.defs_read.specs.Defined.{Defined}
use Rattle.report_core.specs.declared.answers.Answer.{Answer}
use Rattle.report_core.specs.declared.answers.Answer.TheVariants.{Accepted}
use Rattle.report_core.specs.declared.answers.Dropped.{Dropped}
use Rattle.account_core.specs.Played.{Played, IsPlayed, rest_of}
use Rattle.account_core.specs.Stories.{Story, IsStory}

-- of an actor's drops those that an answer names
abbrev pub named_in : List Dropped → Answer → List Dropped
named_in drops (Accepted id flowed span) = slice_range drops span.from span.to
named_in drops answer = []

-- The answers of a story name each of its drops once, in order.
abbrev pub DropsTold : Type 0
DropsTold = (defs : List Defined) (s : Story) → IsStory defs s → flat_map (named_in s.end.drops) s.answers ≡ s.end.drops

-- the row of an entry of this id is deleted, so it is none of the queue's entries
pub record IsGone (queue : Queue) (id : ℕ) : Type 0 where
  pub number : ℕ
  pub row : Row
  pub found : row_at queue number ≡ Some row
  pub same_id : row.slip.id ≡ id
  pub deleted : row.state ≡ Deleted

-- each entry that a story of a phase dropped is gone from its queue when the phase ends
abbrev pub DropsGone : Type 0
DropsGone =
    (defs : List Defined) (q i : ℕ) (stories : List Story) (p : Played) (s : Story)
    → IsStory defs s → slice_get stories i ≡ Some s → IsPlayed q stories p
    → AllByRecursion (λ x. x.queue ≡ q → IsGone (rest_of p) x.id) s.end.drops
