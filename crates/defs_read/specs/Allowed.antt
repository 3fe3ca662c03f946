-- the limits of definitions (docs/SCRIPT.md)
use Rattle.std.specs.Prelude.{◌≡◌, ℕ, ◌^◌, ◌<◌, ◌≤◌, List, length, map, All, true, Option, Some, None, slice_get}
use Rattle.std.specs.List.{IsDistinct}
use Rattle.std.specs.Str.{bytes_eq}
use Rattle.fields_read.specs.Forms.{is_name}
use Rattle.fields_read.specs.declared.limits.TheConstants.{LONGEST_KEY, MOST_PRIORITIES, MOST_QUEUES}
use Rattle.defs_read.specs.Causes.{most_consumers}
use Rattle.defs_read.specs.Defined.{Defined, consumers_in}
use Rattle.defs_read.specs.declared.defs.ConsumerDef.{ConsumerDef}
use Rattle.defs_read.specs.declared.defs.QueueKind.{QueueKind}
use Rattle.defs_read.specs.declared.defs.QueueKind.TheVariants.{Standard, Priority, Sorted, LastValue}

-- the greatest number of queues
abbrev pub most_queues : ℕ
most_queues = MOST_QUEUES

-- a priority queue has 1 to 10 priorities
abbrev pub HasPriorities : QueueKind → Type 0
HasPriorities Standard = Unit {0}
HasPriorities (Priority n) = (1 ≤ n) × (n ≤ MOST_PRIORITIES)
HasPriorities (Sorted key) = Unit {0}
HasPriorities (LastValue key) = Unit {0}

-- the name of the header that a queue goes by has 1 to 255 bytes
abbrev pub HasKey : QueueKind → Type 0
HasKey Standard = Unit {0}
HasKey (Priority n) = Unit {0}
HasKey (Sorted key) = (1 ≤ length key) × (length key ≤ LONGEST_KEY)
HasKey (LastValue key) = (1 ≤ length key) × (length key ≤ LONGEST_KEY)

-- a limit is none, or 1 to 2 ^ 40
abbrev pub IsLimit : Option ℕ → Type 0
IsLimit None = Unit {0}
IsLimit (Some n) = (1 ≤ n) × (n ≤ 2 ^ 40)

-- a consumer and its actor have names
pub record IsNamed (consumer : ConsumerDef) : Type 0 where
  pub name : is_name consumer.name ≡ true
  pub actor : is_name consumer.actor ≡ true

-- so few consumers that each has its bit in a mask, and a list for each priority: what a slip asks of a queue
pub record GivesSlips (queue : Defined) : Type 0 where
  pub consumers : length queue.consumers ≤ most_consumers
  pub priorities : HasPriorities queue.kind

-- the queue is within its limits
pub record IsAllowed (queue : Defined) : Type 0 where
  pub name : is_name queue.name ≡ true
  pub slips : GivesSlips queue
  pub key : HasKey queue.kind
  pub entries : IsLimit queue.limits.entries
  pub bytes : IsLimit queue.limits.bytes
  pub named : All IsNamed queue.consumers

-- Queues are within their limits, and so are the numbers of them and of their consumers. No two queues have one name,
-- and no two consumers; consumers are numbered over all queues, in order.
pub record AreAllowed (queues : List Defined) : Type 0 where
  pub some : 1 ≤ length queues
  pub few : length queues ≤ most_queues
  pub consumers : length (consumers_in queues) ≤ most_consumers
  pub numbers : All (λ c. c.number < most_consumers) (consumers_in queues)
  pub numbered : (i : ℕ) (c : ConsumerDef) → slice_get (consumers_in queues) i ≡ Some c → c.number ≡ i
  pub queue_names : IsDistinct bytes_eq (map (λ q. q.name) queues)
  pub consumer_names : IsDistinct bytes_eq (map (λ c. c.name) (consumers_in queues))
  pub each : All IsAllowed queues
