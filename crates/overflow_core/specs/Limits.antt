-- the policies: what becomes of a put, by the depth that its reservation showed
use Rattle.std.specs.Prelude.{ℕ, ◌+◌, ◌*◌, ◌/◌, Bool, true, false, ◌||◌, nat_lt, nat_le, Option, Some, None}
use Rattle.std.specs.Option.{option_map}
use Rattle.queue_model.specs.declared.queues.Depth.{Depth}
use Rattle.queue_model.specs.declared.queues.Limits.{Limits}
use Rattle.queue_model.specs.declared.queues.Policy.{Policy}
use Rattle.queue_model.specs.declared.queues.Policy.TheVariants as policy
use Rattle.overflow_core.specs.declared.verdicts.Verdict.{Verdict}
use Rattle.overflow_core.specs.declared.verdicts.Verdict.TheVariants.{Admitted, Flowed, Rejected, Blocked}

-- Limits

-- so many are the limit or more; an absent limit is never reached
abbrev pub is_reached : Option ℕ → ℕ → Bool
is_reached None n = false
is_reached (Some limit) n = nat_le limit n

-- so many are more than the limit; an absent limit is never passed
abbrev pub is_passed : Option ℕ → ℕ → Bool
is_passed None n = false
is_passed (Some limit) n = nat_lt limit n

-- a message of this size is too much for a queue that is so full: there is no room for an entry, or not for its bytes
abbrev pub is_over : Limits → ℕ → Depth → Bool
is_over limits size d = is_reached limits.entries d.entries || is_passed limits.bytes (d.bytes + size)

-- four fifths of a limit, rounded down
abbrev pub four_fifths : ℕ → ℕ
four_fifths limit = limit * 80 / 100

-- the queue is still too full for a producer that was stopped: it has more than four fifths of a limit
abbrev pub is_still_full : Limits → Depth → Bool
is_still_full limits d = is_passed (option_map four_fifths limits.entries) d.entries || is_passed (option_map four_fifths limits.bytes) d.bytes

-- it is the policy of rings
abbrev pub is_ring_policy : Policy → Bool
is_ring_policy policy.Ring = true
is_ring_policy p = false

-- the queue has more entries, or more bytes, than it may
abbrev pub is_beyond : Limits → Depth → Bool
is_beyond limits d = is_passed limits.entries d.entries || is_passed limits.bytes d.bytes

-- the oldest entries of a full queue are dropped
abbrev pub is_ring : Limits → Bool
is_ring limits = is_ring_policy limits.policy

-- Verdicts

-- What a producer is answered, and whether it is stopped then: one that was stopped while the queue is still too full, or
-- else while it is over; one that was not stopped where the queue is over.
abbrev pub flow_of : Bool → Bool → Bool → Depth → Verdict × Bool
flow_of true true over d = (Blocked d, true)
flow_of stopped full true d = (Blocked d, true)
flow_of stopped full false d = (Admitted, false)

-- the same by policy; the flags are whether the queue is over, whether it is still too full, whether the producer was
-- stopped, and whether the message is persistent
abbrev pub judged_by : Policy → Bool → Bool → Bool → Bool → Depth → Verdict × Bool
judged_by policy.None over full stopped persistent d = (Admitted, stopped)
judged_by policy.Ring over full stopped persistent d = (Admitted, stopped)
judged_by policy.Reject true full stopped persistent d = (Rejected d, stopped)
judged_by policy.Reject false full stopped persistent d = (Admitted, stopped)
judged_by policy.FlowControl over full stopped persistent d = flow_of stopped full over d
judged_by policy.FlowToDisk true full stopped true d = (Flowed, stopped)
judged_by policy.FlowToDisk over full stopped persistent d = (Admitted, stopped)

-- what becomes of a put of this size where the depth was this without it, and whether its producer is stopped then
abbrev pub judged : Limits → Bool → Bool → ℕ → Depth → Verdict × Bool
judged limits stopped persistent size d =
    judged_by limits.policy (is_over limits size d) (is_still_full limits d) stopped persistent d

-- the message is not to be put
abbrev pub is_refusal : Verdict → Bool
is_refusal Admitted = false
is_refusal Flowed = false
is_refusal (Rejected d) = true
is_refusal (Blocked d) = true
