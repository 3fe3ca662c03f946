-- definitions as contracts see them
use Rattle.std.specs.Prelude.{ℕ, List, map, flat_map}
use Rattle.queue_model.specs.declared.queues.Limits.{Limits}
use Rattle.defs_read.specs.declared.defs.Defs.{Defs}
use Rattle.defs_read.specs.declared.defs.QueueDef.{QueueDef}
use Rattle.defs_read.specs.declared.defs.QueueKind.{QueueKind}
use Rattle.defs_read.specs.declared.defs.ConsumerDef.{ConsumerDef}

-- a queue's definition
pub record Defined : Type 0 where
  pub name : List ℕ
  pub kind : QueueKind
  pub limits : Limits
  pub consumers : List ConsumerDef

-- the definition of a queue, as contracts see it
abbrev pub defined : QueueDef → Defined
defined q = record { name = q.name; kind = q.kind; limits = q.limits; consumers = q.consumers.items }

-- the queues of definitions, in order
abbrev pub queues_in : Defs → List Defined
queues_in defs = map defined defs.queues.items

-- the consumers of all queues, in order
abbrev pub consumers_in : List Defined → List ConsumerDef
consumers_in queues = flat_map (λ q. q.consumers) queues
