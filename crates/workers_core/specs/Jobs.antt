-- lines with what was found out about them before their phase began
use Rattle.std.specs.Prelude.{◌≡◌, ℕ, ◌<◌, ◌==◌, Bool, true, false, Option, Some, None, List, length, slice_get}
use mathlib.Core.List.{Mem}
use Rattle.queue_model.specs.declared.rows.Slip.{Slip}
use Rattle.queue_model.specs.Table.{FitsQueue}
use Rattle.acts_core.specs.Sight.{Sight}
use Rattle.message_core.specs.Spelling.{Content, content}
use Rattle.defs_read.specs.Defined.{Defined}
use Rattle.defs_read.specs.Slips.{IsSlip}
use Rattle.script_read.specs.declared.lines.What.{What}
use Rattle.script_read.specs.declared.lines.What.TheVariants.{Put, Take, Close, Ack, Release, Lock, Unlock, Steal}
use Rattle.target_core.specs.Seats.{Seats, seat_at}
use Rattle.line_core.specs.Places.{IsReady, place_of}
use Rattle.workers_core.specs.declared.jobs.Aid.{Aid}
use Rattle.workers_core.specs.declared.jobs.Aid.TheVariants as aid

-- What is beside the line is what these definitions say: the slip of the message in the queue that it is put to, or the
-- queue of the consumer and its place there.
abbrev pub JobFits : List Defined → What → Aid → Type 0
JobFits defs (Put q m) (aid.Slip slip) = (def : Defined) × (slice_get defs q ≡ Some def) × IsSlip def m slip
JobFits defs (Put q m) other = ⊥
JobFits defs (Take c) (aid.Place q k) = place_of defs c ≡ Some (q, k)
JobFits defs (Take c) other = ⊥
JobFits defs what other = Unit {0}

-- a slip that a message may have in the queue of a pass
pub record IsOwnSlip (t : Sight) (m : Content) (slip : Slip) : Type 0 where
  pub fits : FitsQueue t.opening.lists t.opening.consumers slip
  pub id : slip.id ≡ m.id
  pub size : slip.size ≡ length (content m)
  pub allowed : 0 < t.allowance
  pub share : 0 < t.share

-- the line is one on queue q, and its pass may do it
abbrev pub MayDo : ℕ → Sight → What → Aid → Type 0
MayDo q t (Put r m) (aid.Slip slip) = (r ≡ q) × IsOwnSlip t m slip
MayDo q t (Take c) (aid.Place r k) = (r ≡ q) × (c < 64) × Mem k t.consumers
MayDo q t (Ack r id) other = r ≡ q
MayDo q t (Release r id) other = r ≡ q
MayDo q t (Lock r id) other = r ≡ q
MayDo q t (Unlock r id) other = r ≡ q
MayDo q t (Steal r id) other = r ≡ q
MayDo q t what other = ⊥

-- the consumer of a take has a target with room for a delivery, or one at its limit, or none
abbrev pub SeatReady : What → Seats → Type 0
SeatReady (Take c) seats = IsReady 1 (seat_at seats c)
SeatReady what seats = Unit {0}

-- how many entries a line may gain
abbrev pub gains : What → ℕ
gains (Take c) = 1
gains (Steal q id) = 1
gains what = 0

-- how many entries a line puts to queue q
abbrev pub puts_to : ℕ → What → Bool
puts_to q (Put r m) = r == q
puts_to q what = false

-- whether a line puts
abbrev pub is_put : What → Bool
is_put (Put q m) = true
is_put what = false

-- whether a line takes for consumer c
abbrev pub takes_for : ℕ → What → Bool
takes_for c (Take d) = d == c
takes_for c what = false

-- the queue that a line is on; none for the close of a consumer
abbrev pub place_in : Aid → Option ℕ
place_in (aid.Place q k) = Some q
place_in other = None

abbrev pub queue_of : What → Aid → Option ℕ
queue_of (Put q m) other = Some q
queue_of (Take c) other = place_in other
queue_of (Close c) other = None
queue_of (Ack q id) other = Some q
queue_of (Release q id) other = Some q
queue_of (Lock q id) other = Some q
queue_of (Unlock q id) other = Some q
queue_of (Steal q id) other = Some q
queue_of what other = None
