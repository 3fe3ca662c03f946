-- what a caller has of the rows of a queue, and what a call does to it
use Rattle.std.specs.Prelude.{◌≡◌, ◌≢◌, ℕ, Option, Some, None}
use Rattle.queue_model.specs.declared.queues.Queue.{Queue}
use Rattle.queue_model.specs.declared.queues.Reservation.{Reservation}
use Rattle.queue_model.specs.declared.rows.Row.{Row}
use Rattle.queue_model.specs.declared.rows.RowState.TheVariants.{Locked}
use Rattle.queue_model.specs.State.{row_at}
use Rattle.queue_model.specs.Table.{with_more, with_less}
use Rattle.acts_core.specs.Asked.{HasLeft, Handed}
use Rattle.acts_core.specs.Calls.{Call, CallReserve, CallGiveBack, CallPut, CallNext, CallOldest, CallLock, CallUnlock, CallRelease, CallSteal, CallDequeue, CallDelete, Answer, IsGot, IsAt, IsLocked, HasStolen}
use Rattle.acts_core.specs.Load.{Load}
use Rattle.acts_core.specs.Moments.{IsLoadOf}
use Rattle.acts_core.specs.Sight.{Sight, known}

-- Rows

-- h holds row r, and its cargo is that of the row as it is
pub record Holds (q : Queue) (h r : ℕ) (load : Load) : Type 0 where
  pub row : Row
  pub found : row_at q r ≡ Some row
  pub held : row.state ≡ Locked h
  pub same : IsLoadOf row load

-- row r is in the hands of the pass's caller: left by it; or held by it, with the cargo that it was handed
abbrev pub InHand : Sight → ℕ → Option Load → Type 0
InHand s r None = HasLeft s.caller r s.seen
InHand s r (Some load) = Handed (known s) s.caller r load

-- the call doesn't end a lock of row r
abbrev pub Spares : ℕ → Call → Type 0
Spares r (CallUnlock s load) = s ≢ r
Spares r (CallRelease s load) = s ≢ r
Spares r (CallDequeue s) = s ≢ r
Spares r call = Unit {0}

-- a put displaces row r at most
abbrev pub DisplacesOnly : ℕ → Option (ℕ × Load) → Type 0
DisplacesOnly r None = Unit {0}
DisplacesOnly r (Some d) = d.0 ≡ r

-- the call with this answer changes the state of row r at most, and that of no other row
abbrev pub Aims : ℕ → Call → Answer → Type 0
Aims r (CallPut slip load) (IsAt e displaced) = DisplacesOnly r displaced
Aims r (CallNext c) (IsGot e l load) = e ≡ r
Aims r CallOldest (IsGot e l load) = e ≡ r
Aims r (CallLock e) a = e ≡ r
Aims r (CallUnlock e load) a = e ≡ r
Aims r (CallRelease e load) a = e ≡ r
Aims r (CallSteal e) a = e ≡ r
Aims r (CallDequeue e) a = e ≡ r
Aims r (CallDelete e) a = e ≡ r
Aims r call a = Unit {0}

-- the row that a call with this answer gains, and the cargo that is handed out for it
abbrev pub gained : Call → Answer → Option (ℕ × Load)
gained (CallNext c) (IsGot r l load) = Some (r, load)
gained CallOldest (IsGot r l load) = Some (r, load)
gained (CallLock r) (IsLocked load) = Some (r, load)
gained (CallSteal r) (HasStolen load) = Some (r, load)
gained (CallPut slip load) (IsAt r displaced) = displaced
gained call answer = None

-- Reservations

-- what a caller has reserved after its call, by what it had: a dequeue's entry comes and is given back at once
abbrev pub reserved_after : Call → Answer → Reservation → Reservation
reserved_after (CallReserve size) a v = with_more v size
reserved_after (CallGiveBack size) a v = with_less v size
reserved_after (CallPut slip load) (IsAt r displaced) v = with_less v slip.size
reserved_after call a v = v

-- Passes

-- a call leaves these of its pass
pub record SamePass (old new : Sight) : Type 0 where
  pub opening : new.opening ≡ old.opening
  pub caller : new.caller ≡ old.caller
  pub consumers : new.consumers ≡ old.consumers
  pub ended : new.ended ≡ old.ended
  pub made : new.made ≡ old.made
