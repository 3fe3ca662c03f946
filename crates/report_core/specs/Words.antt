-- what a line answers, as text (docs/REPORT.md)
use Rattle.std.specs.Prelude.{ℕ, ◌<◌, ◌≤◌, Bool, true, false, List, [], ◌++◌, length, slice_range, flat_map, ⊤, codes}
use Rattle.std.specs.List.{All}
use Rattle.std.specs.Fmt.{decimal}
use Rattle.queue_model.specs.declared.queues.Depth.{Depth}
use Rattle.report_core.specs.declared.answers.Answer.{Answer}
use Rattle.report_core.specs.declared.answers.Answer.TheVariants.{Accepted, Staged, Rejected, Blocked, Failed, TooLong, Got, Empty, NoCredit, Closed, FailedId, Acked, NotHeld, Stolen, Released, Outdated, Unlocked, Locked, Stole, NotStealable, Moved, Absent, Begun, Already, Committed, NoTransaction, RolledBack}
use Rattle.report_core.specs.declared.answers.Dropped.{Dropped}
use Rattle.report_core.specs.declared.answers.Span.{Span}
use Rattle.report_core.specs.Names.{name_at, state_text, NamesCaller}

-- a word that is said or not
abbrev pub said_if : Bool → List ℕ → List ℕ
said_if true text = text
said_if false text = []

-- what became of an acquired entry
abbrev pub fate_text : Bool → List ℕ
fate_text true = codes " held "
fate_text false = codes " dropped "

-- an acquired entry: what became of it, its queue and its id
abbrev pub drop_text : List (List ℕ) → Dropped → List ℕ
drop_text queues d = fate_text d.kept ++ (name_at queues d.queue ++ (codes "#" ++ decimal d.id))

-- the drops that a span names, in order
abbrev pub span_text : List (List ℕ) → List Dropped → Span → List ℕ
span_text queues drops span = flat_map (drop_text queues) (slice_range drops span.from span.to)

-- a queue's entries and bytes
abbrev pub full_text : Depth → List ℕ
full_text depth = decimal depth.entries ++ (codes " " ++ decimal depth.bytes)

-- the answer's words; the queues, the actors and the drops that it may name are those of the run
abbrev pub words : List (List ℕ) → List (List ℕ) → List Dropped → Answer → List ℕ
words queues actors drops (Accepted id flowed acquired) = codes "ok " ++ (decimal id ++ (said_if flowed (codes " flowed") ++ span_text queues drops acquired))
words queues actors drops (Staged id flowed) = codes "staged " ++ (decimal id ++ said_if flowed (codes " flowed"))
words queues actors drops (Rejected depth) = codes "rejected " ++ full_text depth
words queues actors drops (Blocked depth) = codes "blocked " ++ full_text depth
words queues actors drops Failed = codes "failed"
words queues actors drops TooLong = codes "too-long"
words queues actors drops (Got id number) = codes "got " ++ (decimal id ++ (codes " " ++ decimal number))
words queues actors drops Empty = codes "empty"
words queues actors drops NoCredit = codes "no-credit"
words queues actors drops Closed = codes "closed"
words queues actors drops (FailedId id held) = codes "failed " ++ (decimal id ++ said_if held (codes " held"))
words queues actors drops (Acked id) = codes "acked " ++ decimal id
words queues actors drops NotHeld = codes "not-held"
words queues actors drops (Stolen state) = codes "stolen " ++ state_text actors state
words queues actors drops (Released id) = codes "released " ++ decimal id
words queues actors drops (Outdated id) = codes "outdated " ++ decimal id
words queues actors drops (Unlocked id) = codes "unlocked " ++ decimal id
words queues actors drops (Locked id) = codes "locked " ++ decimal id
words queues actors drops (Stole id) = codes "stole " ++ decimal id
words queues actors drops (NotStealable state) = codes "not-stealable " ++ state_text actors state
words queues actors drops (Moved state) = codes "moved " ++ state_text actors state
words queues actors drops Absent = codes "absent"
words queues actors drops Begun = codes "begun"
words queues actors drops Already = codes "already"
words queues actors drops (Committed acquired) = codes "committed" ++ span_text queues drops acquired
words queues actors drops NoTransaction = codes "no-transaction"
words queues actors drops RolledBack = codes "rolled-back"

-- the queue of a drop has a name
abbrev pub HasQueue : List (List ℕ) → Dropped → Type 0
HasQueue queues d = d.queue < length queues

-- the span is one of these drops, and the queue of each has a name
pub record IsSpan (queues : List (List ℕ)) (drops : List Dropped) (span : Span) : Type 0 where
  pub ordered : span.from ≤ span.to
  pub within : span.to ≤ length drops
  pub named : All (HasQueue queues) (slice_range drops span.from span.to)

-- what the answer names has a name
abbrev pub Fits : List (List ℕ) → List (List ℕ) → List Dropped → Answer → Type 0
Fits queues actors drops (Accepted id flowed acquired) = IsSpan queues drops acquired
Fits queues actors drops (Committed acquired) = IsSpan queues drops acquired
Fits queues actors drops (Stolen state) = NamesCaller actors state
Fits queues actors drops (NotStealable state) = NamesCaller actors state
Fits queues actors drops (Moved state) = NamesCaller actors state
Fits queues actors drops answer = ⊤
