-- queues by their definitions, consumers, and what a delivery tells
use Rattle.std.specs.Prelude.{◌≡◌, ℕ, ◌+◌, ◌-◌, ◌≤◌, Bool, false, nat_lt, nat_le, if◌then◌else◌, Option, Some, None, List, [], ◌∷◌, length, slice_get}
use Rattle.acts_core.specs.Load.{Load}
use Rattle.acts_core.specs.Sight.{Build, Kind, Listed}
use Rattle.acts_core.specs.Sight as kinds
use Rattle.message_core.specs.Spelling.{Content, content}
use Rattle.defs_read.specs.Defined.{Defined}
use Rattle.defs_read.specs.declared.defs.QueueKind.{QueueKind}
use Rattle.defs_read.specs.declared.defs.QueueKind.TheVariants as asked
use Rattle.target_core.specs.Seats.{Seat, left_of, sum_of}
use Rattle.target_core.specs.declared.deliveries.Delivery.{Delivery}

-- the kind of queue that a definition asks for
abbrev pub kind_of : QueueKind → Kind
kind_of asked.Standard = Listed
kind_of (asked.Priority n) = Listed
kind_of (asked.Sorted key) = kinds.Sorted
kind_of (asked.LastValue key) = kinds.LastValue

-- each queue is of the kind that its definition asks for
abbrev pub AreOfKinds : List Defined → List Build → Type 0
AreOfKinds queues builds =
    (q : ℕ) (def : Defined) (b : Build)
    → slice_get queues q ≡ Some def → slice_get builds q ≡ Some b → b.kind ≡ kind_of def.kind

-- the queue of consumer c, counted over all queues from queue q on, and its number there
abbrev pub place_from : ℕ → List Defined → ℕ → Option (ℕ × ℕ)
place_from q [] c = None
place_from q (def ∷ defs) c =
    if nat_lt c (length def.consumers) then Some (q, c) else place_from (q + 1) defs (c - length def.consumers)

-- the queue of consumer c, and its number there
abbrev pub place_of : List Defined → ℕ → Option (ℕ × ℕ)
place_of defs c = place_from 0 defs c

-- so many deliveries are as many as the limit
abbrev pub is_at : Option ℕ → ℕ → Bool
is_at None n = false
is_at (Some limit) n = nat_le limit n

-- the target takes no more
abbrev pub is_full : Seat → Bool
is_full s = is_at s.limit (length s.deliveries)

-- The delivery of a cargo to consumer c for the n-th time. Where the cargo has its whole message, the delivery tells of
-- the length and the sum of that message's body.
pub record IsDelivery (c q n : ℕ) (load : Load) (d : Delivery) : Type 0 where
  pub message : Content
  pub whole : length load.content ≡ load.size → load.content ≡ content message
  pub told :
      d
      ≡ record {
        consumer = c;
        queue = q;
        id = load.id;
        delivered = n;
        length = length message.body;
        sum = sum_of message.body;
      }

-- where a target stands, it has room for so many deliveries more, or for as many as its limit leaves
abbrev pub IsReady : ℕ → Option Seat → Type 0
IsReady n None = Unit {0}
IsReady n (Some s) = left_of s.limit (length s.deliveries) n ≤ s.room
