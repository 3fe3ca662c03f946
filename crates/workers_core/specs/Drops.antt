-- how many entries the puts of an actor can drop
use Rattle.std.specs.Prelude.{◌≡◌, ℕ, ◌+◌, ◌-◌, ◌<◌, ◌≤◌, ◌^◌, Bool, true, false, if◌then◌else◌, Option, Some, None, List, [], ◌∷◌, slice_get}
use Rattle.std.specs.List.{count_by, list_any, sum_by}
use Rattle.queue_model.specs.declared.deeds.Act.{Act}
use Rattle.queue_model.specs.declared.deeds.Act.TheVariants.{Del}
use Rattle.queue_model.specs.declared.queues.Limits.{Limits}
use Rattle.queue_model.specs.declared.queues.Policy.{Policy}
use Rattle.queue_model.specs.declared.queues.Policy.TheVariants as policy
use Rattle.queue_model.specs.History.{own}
use Rattle.acts_core.specs.Sight.{Build, Kind, LastValue, Sight}
use Rattle.defs_read.specs.Defined.{Defined}
use Rattle.script_read.specs.declared.lines.Op.{Op}
use Rattle.script_read.specs.declared.lines.What.{What}
use Rattle.script_read.specs.declared.lines.What.TheVariants.{Put}
use Rattle.overflow_core.specs.Limits.{is_ring}
use Rattle.line_core.specs.Places.{kind_of}

-- Rows of a queue

-- the act deletes a row
abbrev pub is_deletion : Act → Bool
is_deletion (Del r) = true
is_deletion act = false

-- how many rows the pass's caller has deleted
abbrev pub deleted : Sight → ℕ
deleted t = count_by (λ d. is_deletion d.act) (own t.caller t.seen)

-- how many more it can delete: no row is deleted twice
abbrev pub left_to : Build → Sight → ℕ
left_to build t = build.rows - deleted t

-- how many rows queues have room for
abbrev pub all_rows : List Build → ℕ
all_rows builds = sum_by (λ b. b.rows) builds

-- how many more rows of all queues the passes' caller can delete
abbrev pub all_left : List Build → List Sight → ℕ
all_left [] sights = 0
all_left (b ∷ builds) [] = 0
all_left (b ∷ builds) (t ∷ sights) = left_to b t + all_left builds sights

-- Lines

-- how many entries a put to a queue of this kind can displace
abbrev pub displaced_by : Kind → ℕ
displaced_by LastValue = 1
displaced_by kind = 0

-- how many entries a put can drop: on a ring as many as there are, and else the one that it displaces
abbrev pub droppable : Limits → Build → Sight → ℕ
droppable limits build t = if is_ring limits then left_to build t else displaced_by build.kind

-- the queue is a ring
abbrev pub is_ring_at : Option Defined → Bool
is_ring_at None = false
is_ring_at (Some def) = is_ring def.limits

-- how many entries a put to it can displace
abbrev pub displaced_at : Option Defined → ℕ
displaced_at None = 0
displaced_at (Some def) = displaced_by (kind_of def.kind)

-- the line puts to a ring
abbrev pub puts_to_ring : List Defined → What → Bool
puts_to_ring defs (Put q m) = is_ring_at (slice_get defs q)
puts_to_ring defs what = false

-- how many entries the line can displace
abbrev pub displaces : List Defined → What → ℕ
displaces defs (Put q m) = displaced_at (slice_get defs q)
displaces defs what = 0

-- How many entries these lines can drop, where so many rows are left to delete: what they displace; and where one of them
-- puts to a ring, all those rows.
abbrev pub all_drops : List Defined → ℕ → List Op → ℕ
all_drops defs left ops =
    sum_by (λ op. displaces defs op.what) ops
    + (if list_any (λ op. puts_to_ring defs op.what) ops then left else 0)

-- a list with so many elements and this capacity has room for so many more, and their places have numbers of 32 bits
pub record HasRoom (more taken capacity : ℕ) : Type 0 where
  pub within : taken + more ≤ capacity
  pub numbered : taken + more < 2 ^ 32

-- Policies

-- actors serve the policy: that which keeps bodies on disk alone is not served yet
abbrev pub IsServedPolicy : Policy → Type 0
IsServedPolicy policy.FlowToDisk = ⊥
IsServedPolicy p = Unit {0}

-- and so that of each queue
abbrev pub ServesPolicies : List Defined → Type 0
ServesPolicies defs = (q : ℕ) (def : Defined) → slice_get defs q ≡ Some def → IsServedPolicy def.limits.policy
