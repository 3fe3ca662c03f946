-- the account of a phase, and what becomes of the targets
use Rattle.std.specs.Prelude.{◌≡◌, ℕ, Option, Some, None, List, slice_get}
use Rattle.script_read.specs.declared.lines.Op.{Op}
use Rattle.script_read.specs.declared.lines.What.{What}
use Rattle.script_read.specs.declared.lines.What.TheVariants.{Take, Close}
use Rattle.target_core.specs.Seats.{Seat, Seats, seat_at}
use Rattle.account_core.specs.Stories.{Story}
use Rattle.account_core.specs.Played.{Played}

-- the account of a phase: each queue in the order of the definitions, and each actor in the order of first appearance
pub record Account : Type 0 where
  pub queues : List Played
  pub stories : List Story

-- the line names consumer c
abbrev pub Names : ℕ → What → Type 0
Names c (Take d) = d ≡ c
Names c (Close d) = d ≡ c
Names c w = ⊥

-- story i has a line that names consumer c
pub record Uses (c : ℕ) (stories : List Story) (i : ℕ) (s : Story) : Type 0 where
  pub there : slice_get stories i ≡ Some s
  pub at : ℕ
  pub op : Op
  pub line : slice_get s.ops at ≡ Some op
  pub names : Names c op.what

-- the same target: with the same deliveries and the same limit; how much room it has is its own affair
abbrev pub SameTarget : Option Seat → Option Seat → Type 0
SameTarget None None = Unit {0}
SameTarget (Some s) (Some t) = (t.deliveries ≡ s.deliveries) × (t.limit ≡ s.limit)
SameTarget s t = ⊥

-- the same targets, of all consumers
abbrev pub SameSeats : Seats → Seats → Type 0
SameSeats a b = (c : ℕ) → SameTarget (seat_at a c) (seat_at b c)

-- Each actor has the targets of the consumers that its lines name, as they were, and leaves them as it had them last;
-- the others stay.
pub record SeatsGo (seats : Seats) (stories : List Story) (seats' : Seats) : Type 0 where
  pub taken : (c i : ℕ) (s : Story) → Uses c stories i s → SameTarget (seat_at seats c) (seat_at s.seats c)
  pub given : (c i : ℕ) (s : Story) → Uses c stories i s → SameTarget (seat_at s.end.seats c) (seat_at seats' c)
  pub kept : (c : ℕ) → ((i : ℕ) (s : Story) → Uses c stories i s → ⊥) → SameTarget (seat_at seats c) (seat_at seats' c)
