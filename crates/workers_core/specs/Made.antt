-- what an actor is made of
use Rattle.std.specs.Prelude.{◌≡◌, ℕ, ◌<◌, ◌≤◌, Option, Some, None, List, length, slice_get}
use Rattle.std.specs.List.{count_by}
use mathlib.Core.List.{Mem}
use Rattle.acts_core.specs.Sight.{Sight}
use Rattle.defs_read.specs.Defined.{Defined}
use Rattle.defs_read.specs.Slips.{lists_of}
use Rattle.defs_read.specs.declared.defs.ConsumerDef.{ConsumerDef}
use Rattle.script_read.specs.Allowed.{IsDefined}
use Rattle.script_read.specs.declared.lines.Op.{Op}
use Rattle.script_read.specs.declared.lines.What.{What}
use Rattle.script_read.specs.declared.lines.What.TheVariants.{Take, Begin, Commit, Rollback}
use Rattle.target_core.specs.Hands.{Stays}
use Rattle.target_core.specs.Seats.{Seat, Seats, seat_at}
use Rattle.workers_core.specs.Jobs.{puts_to}

-- actors do such a line: all but those of transactions
abbrev pub IsServed : What → Type 0
IsServed Begin = ⊥
IsServed Commit = ⊥
IsServed Rollback = ⊥
IsServed what = Unit {0}

-- how many of these lines put to queue q
abbrev pub puts_in : ℕ → List Op → ℕ
puts_in q ops = count_by (λ op. puts_to q op.what) ops

-- The pass is one for the actor of this name: of a queue with the lists and consumers of this definition; and it has
-- the actor's consumers there.
pub record IsPassFor (name : List ℕ) (def : Defined) (t : Sight) : Type 0 where
  pub lists : t.opening.lists ≡ lists_of def.kind
  pub consumers : t.opening.consumers ≡ length def.consumers
  pub own : (k : ℕ) (c : ConsumerDef) → slice_get def.consumers k ≡ Some c → c.actor ≡ name → Mem k t.consumers

-- one such pass of each queue, in the order of the definitions
pub record ArePassesFor (name : List ℕ) (defs : List Defined) (sights : List Sight) : Type 0 where
  pub as_many : length sights ≡ length defs
  pub each : (q : ℕ) (def : Defined) (t : Sight)
      → slice_get defs q ≡ Some def → slice_get sights q ≡ Some t → IsPassFor name def t

-- each pass may reserve and draw as much as these lines put to its queue
abbrev pub MayPutLines : List Sight → List Op → Type 0
MayPutLines sights ops = (q : ℕ) (t : Sight) → slice_get sights q ≡ Some t
    → (puts_in q ops ≤ t.allowance) × (puts_in q ops ≤ t.share)

-- the line is its actor's own, and actors do such lines
abbrev pub IsOwnLine : List Defined → Op → Type 0
IsOwnLine defs op = IsDefined defs op.actor op.what × IsServed op.what

-- a take's consumer is one of those that a roster has places for
abbrev pub TakesWithin : What → Type 0
TakesWithin (Take c) = c < 64
TakesWithin what = Unit {0}

-- a target stands where one stood: it has what it had, its limit, and no less room
abbrev pub StaysPlace : Option Seat → Option Seat → Type 0
StaysPlace None None = Unit {0}
StaysPlace (Some old) (Some new) = Stays old new
StaysPlace old new = ⊥

-- and so in each place of a roster
abbrev pub SeatsStay : Seats → Seats → Type 0
SeatsStay old new = (c : ℕ) → StaysPlace (seat_at old c) (seat_at new c)
