-- what a line says that has no cause
use Rattle.std.specs.Prelude.{ℕ, List, [], Option, Some, None, option_and_then, unwrap_or}
use Rattle.serde_json.specs.Data.{Data}
use Rattle.fields_read.specs.Fields.{text_at, number_at}
use Rattle.fields_read.specs.declared.fields.Field.TheVariants.{Actor, Id}
use Rattle.defs_read.specs.Defined.{Defined}
use Rattle.script_read.specs.Causes.{queue_named, consumer_named, verb_in}
use Rattle.script_read.specs.Messages.{message_of}
use Rattle.script_read.specs.declared.lines.Line.{Line}
use Rattle.script_read.specs.declared.lines.Line.TheVariants as line
use Rattle.script_read.specs.declared.lines.What.{What}
use Rattle.script_read.specs.declared.lines.What.TheVariants as what
use Rattle.script_read.specs.declared.tables.Verb.{Verb}
use Rattle.script_read.specs.declared.tables.Verb.TheVariants.{Put, Take, Close, Ack, Release, Lock, Unlock, Steal, Begin, Commit, Rollback, Rest}

-- the number of the queue that the line names; where it names one and has no cause, that is defined
abbrev pub queue_number : List Defined → Data → ℕ
queue_number queues d = unwrap_or (queue_named queues d) 0

-- the number of the consumer likewise
abbrev pub consumer_number : List Defined → Data → ℕ
consumer_number queues d = unwrap_or (consumer_named queues d) 0

-- what the line does by this verb; none where it is a rest
abbrev pub what_by : List Defined → Data → Verb → Option What
what_by queues d Put = Some (what.Put (queue_number queues d) (message_of d))
what_by queues d Take = Some (what.Take (consumer_number queues d))
what_by queues d Close = Some (what.Close (consumer_number queues d))
what_by queues d Ack = Some (what.Ack (queue_number queues d) (number_at Id d))
what_by queues d Release = Some (what.Release (queue_number queues d) (number_at Id d))
what_by queues d Lock = Some (what.Lock (queue_number queues d) (number_at Id d))
what_by queues d Unlock = Some (what.Unlock (queue_number queues d) (number_at Id d))
what_by queues d Steal = Some (what.Steal (queue_number queues d) (unwrap_or (number_at Id d) 0))
what_by queues d Begin = Some what.Begin
what_by queues d Commit = Some what.Commit
what_by queues d Rollback = Some what.Rollback
what_by queues d Rest = None

-- the line of number n by which its actor does this; where nothing is done, it is a rest
abbrev pub line_for : ℕ → Data → Option What → Line
line_for n d None = line.Rest
line_for n d (Some w) = line.Doing (record { line = n; actor = unwrap_or (text_at Actor d) []; what = w })

-- the line of number n that does this
abbrev pub line_by : List Defined → ℕ → Data → Verb → Line
line_by queues n d v = line_for n d (what_by queues d v)

-- the line of number n that the value says; one without a verb has a cause, and says nothing
abbrev pub line_in : List Defined → ℕ → Data → Line
line_in queues n d = line_for n d (option_and_then (what_by queues d) (verb_in d))
