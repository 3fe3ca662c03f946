-- one line over one queue's pass
use Rattle.std.specs.Prelude.{◌≡◌, ℕ, ◌+◌, ◌≤◌, false, Option, Some, None, List, [], ◌∷◌, ◌++◌, length, slice_get}
use Rattle.queue_model.specs.declared.queues.Limits.{Limits}
use Rattle.queue_model.specs.declared.rows.RowState.{RowState}
use Rattle.queue_model.specs.declared.rows.Slip.{Slip}
use Rattle.acts_core.specs.Calls.{CallLock, CallPut, IsAt, IsStolen}
use Rattle.acts_core.specs.Load.{Load}
use Rattle.acts_core.specs.Sight.{Build, Sight}
use Rattle.defs_read.specs.Defined.{Defined}
use Rattle.defs_read.specs.Slips.{IsSlip}
use Rattle.message_core.specs.Spelling.{Content}
use Rattle.overflow_core.specs.Limits.{is_ring}
use Rattle.script_read.specs.declared.lines.What.{What}
use Rattle.report_core.specs.declared.answers.Answer as report
use Rattle.report_core.specs.declared.answers.Answer.TheVariants.{Accepted}
use Rattle.report_core.specs.declared.answers.Dropped.{Dropped}
use Rattle.line_core.specs.Fits.{Did, DropsOlder, On, Standing, TrimsRing, cargo_of, let_go, lock_first, span_of, unlock_of}
use Rattle.line_core.specs.Hands.{Hand, hand}
use Rattle.line_core.specs.Places.{kind_of}
use Rattle.line_core.specs.Runs.{DidOn, RanOn, calls_on}
use Rattle.workers_core.specs.Drops.{left_to}
use Rattle.workers_core.specs.Hold.{Keeps, Mine}

-- an entry was locked where it wasn't, and this is its cargo
pub record LocksIt (build : Build) (q r id : ℕ) (cargo : Option Load) (load : Load) (old new : Sight) : Type 0 where
  pub got : Load
  pub is_load : load ≡ cargo_of (hand q r id cargo) got
  pub ran : RanOn build (calls_on q (lock_first (hand q r id cargo) got)) old new
  pub mine : Mine new (hand q r id (Some load))
  pub keeps : Keeps old new r

-- an entry that was left unlocked was taken by somebody
pub record LosesIt (build : Build) (q r : ℕ) (cargo : Option Load) (state : RowState) (old new : Sight) : Type 0 where
  pub unlocked : cargo ≡ None
  pub ran : RanOn build ((CallLock r, IsStolen state) ∷ []) old new
  pub keeps : Keeps old new r

-- a line that changes the hands alone
abbrev pub DidHands : Build → ℕ → Sight → List Hand → What → report.Answer → Sight → List Hand → Type 0
DidHands build q old hands w a new hands' =
    (defs : List Defined) (s : Standing) → s.hands ≡ hands
    → DidOn defs build q old s w a new (record s { hands = hands' })

-- an entry is unlocked where it is locked, and all others stay
pub record LeavesIt (build : Build) (q : ℕ) (old : Sight) (k : Hand) (new : Sight) : Type 0 where
  pub ran : RanOn build (calls_on q (unlock_of k k.cargo)) old new
  pub keeps : Keeps old new k.row

-- Entries were dropped by calls of which this holds. They are in the list of drops, and no longer in the hands; and for
-- each of them there is a row less to delete.
pub record Drops (P : List Dropped → List Did → Type 0) (build : Build) (q : ℕ) (old : Sight) (hands : List Hand)
    (drops : List Dropped) (new : Sight) (hands' : List Hand) (drops' : List Dropped) : Type 0 where
  pub own : List Dropped
  pub dids : List Did
  pub fact : P own dids
  pub ran : RanOn build (calls_on q dids) old new
  pub named : drops' ≡ drops ++ own
  pub gone : hands' ≡ let_go own hands
  pub fewer : length own + left_to build new ≤ left_to build old

-- an entry was put, what it displaced was dropped, and a ring was trimmed
pub record Enters (limits : Limits) (q : ℕ) (slip : Slip) (load : Load) (own : List Dropped) (dids : List Did) :
    Type 0 where
  pub row : ℕ
  pub displaced : Option (ℕ × Load)
  pub older : List Dropped
  pub older_dids : List Did
  pub drops_older : DropsOlder q displaced older older_dids
  pub oldest : List Dropped
  pub oldest_dids : List Did
  pub trims : TrimsRing (is_ring limits) limits q oldest oldest_dids
  pub all : own ≡ older ++ oldest
  pub did : dids ≡ On q (CallPut slip load) (IsAt row displaced) ∷ (older_dids ++ oldest_dids)

-- and the answer names what was dropped
pub record EntersWith (limits : Limits) (slip : Slip) (load : Load) (build : Build) (q : ℕ) (old : Sight)
    (hands : List Hand) (drops : List Dropped) (new : Sight) (hands' : List Hand) (drops' : List Dropped)
    (a : report.Answer) : Type 0 where
  pub does : Drops (Enters limits q slip load) build q old hands drops new hands' drops'
  pub answer : a ≡ Accepted slip.id false (span_of drops does.own)

-- the slip is the message's in the queue of this number, which is of the kind of its definition
pub record IsSlipOn (defs : List Defined) (build : Build) (q : ℕ) (m : Content) (slip : Slip) : Type 0 where
  pub def : Defined
  pub defined : slice_get defs q ≡ Some def
  pub fits : IsSlip def m slip
  pub kind : build.kind ≡ kind_of def.kind
