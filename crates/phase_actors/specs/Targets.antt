-- the targets of a phase: which actor has which
use Rattle.std.specs.Prelude.{◌≡◌, ◌≢◌, ℕ, ◌<◌, ◌==◌, Bool, false, if◌then◌else◌, Option, Some, None, IfSome, List, [], ◌∷◌}
use Rattle.std.specs.List.{list_any}
use Rattle.script_read.specs.declared.lines.Op.{Op}
use Rattle.script_read.specs.declared.lines.What.{What}
use Rattle.script_read.specs.declared.lines.What.TheVariants.{Take, Close}
use Rattle.target_core.specs.Seats.{Seat, Seats, seat_at}
use Rattle.account_core.specs.Accounts.{SameTarget}

-- the consumer that a line names
abbrev pub named_in : What → Option ℕ
named_in (Take c) = Some c
named_in (Close c) = Some c
named_in what = None

-- the consumer that a line names, if it names one, is one of those that a roster has places for
abbrev pub NamesWithin : What → Type 0
NamesWithin what = IfSome (named_in what) (λ c. c < 64)

-- whether that is consumer c
abbrev pub is_at : ℕ → Option ℕ → Bool
is_at c None = false
is_at c (Some d) = d == c

-- whether a line names consumer c
abbrev pub names : ℕ → What → Bool
names c what = is_at c (named_in what)

-- whether one of these lines does
abbrev pub is_named : ℕ → List Op → Bool
is_named c ops = list_any (λ op. names c op.what) ops

-- in each place stands the same target
abbrev pub SameTargets : Seats → Seats → Type 0
SameTargets old new = (c : ℕ) → SameTarget (seat_at old c) (seat_at new c)

-- the targets of the consumers that these lines name, and no others
abbrev pub HasTargets : Seats → List Op → Seats → Type 0
HasTargets seats ops own = (c : ℕ) → SameTarget (if is_named c ops then seat_at seats c else None) (seat_at own c)

-- the targets without those of the consumers that these lines name
abbrev pub LacksTargets : Seats → List Op → Seats → Type 0
LacksTargets seats ops left = (c : ℕ) → SameTarget (if is_named c ops then None else seat_at seats c) (seat_at left c)

-- the first target, or where none stands the second
abbrev pub first_target : Option Seat → Option Seat → Option Seat
first_target (Some s) other = Some s
first_target None other = other

-- the second target, where the first stands
abbrev pub without_target : Option Seat → Option Seat → Option Seat
without_target (Some s) other = other
without_target None other = None

-- the targets of the consumers that these lines name were moved to where none stood, and no others
pub record MovesNamed (ops : List Op) (old new own : Seats) : Type 0 where
  pub left : (c : ℕ) → seat_at new c ≡ (if is_named c ops then None else seat_at old c)
  pub moved : (c : ℕ) → seat_at own c ≡ (if is_named c ops then seat_at old c else None)

-- The target of one consumer was moved, if one stood, to where none stood.
pub record MovesOne (consumer : ℕ) (from to from' to' : Seats) : Type 0 where
  pub others : (c : ℕ) → c ≢ consumer → (seat_at from' c ≡ seat_at from c) × (seat_at to' c ≡ seat_at to c)
  pub left : seat_at from' consumer ≡ without_target (seat_at to consumer) (seat_at from consumer)
  pub there : seat_at to' consumer ≡ first_target (seat_at to consumer) (seat_at from consumer)

-- in each place where none stood stands now the target of the other roster
abbrev pub TakesBack : Seats → Seats → Seats → Type 0
TakesBack seats other seats' = (c : ℕ) → seat_at seats' c ≡ first_target (seat_at seats c) (seat_at other c)

-- the target of consumer c, or where none stands that of one of these rosters
abbrev pub all_back : ℕ → Option Seat → List Seats → Option Seat
all_back c now [] = now
all_back c now (own ∷ owns) = first_target (all_back c now owns) (seat_at own c)
