-- what is built; the rest is refused until it is
use Rattle.std.specs.Prelude.{Bool, true, false}
use Rattle.queue_model.specs.declared.queues.Policy.{Policy}
use Rattle.queue_model.specs.declared.queues.Policy.TheVariants as policy
use Rattle.defs_read.specs.Defined.{Defined}
use Rattle.script_read.specs.declared.lines.What.{What}
use Rattle.script_read.specs.declared.lines.What.TheVariants.{Put, Take, Close, Ack, Release, Lock, Unlock, Steal, Begin, Commit, Rollback}

-- the policies that are built: all but that which keeps bodies on disk alone
abbrev pub is_built_policy : Policy → Bool
is_built_policy policy.None = true
is_built_policy policy.Ring = true
is_built_policy policy.FlowControl = true
is_built_policy policy.FlowToDisk = false
is_built_policy policy.Reject = true

-- the queue is built
abbrev pub is_built_queue : Defined → Bool
is_built_queue q = is_built_policy q.limits.policy

-- the lines that are built: all but those of transactions
abbrev pub is_built_line : What → Bool
is_built_line (Put queue message) = true
is_built_line (Take consumer) = true
is_built_line (Close consumer) = true
is_built_line (Ack queue named) = true
is_built_line (Release queue named) = true
is_built_line (Lock queue named) = true
is_built_line (Unlock queue named) = true
is_built_line (Steal queue id) = true
is_built_line Begin = false
is_built_line Commit = false
is_built_line Rollback = false
