-- what an actor needs of its queues and passes before a line, and has again after it
use Rattle.std.specs.Prelude.{◌≡◌, ℕ, ◌+◌, ◌<◌, ◌≤◌, if◌then◌else◌, Some, List, length, slice_get}
use Rattle.std.specs.List.{AllByRecursion, count_by, sum_by}
use mathlib.Core.List.{Mem}
use Rattle.queue_model.specs.Table.{FitsQueue}
use Rattle.queue_model.specs.Keyed.{Apart}
use Rattle.acts_core.specs.Sight.{Sight}
use Rattle.message_core.specs.Spelling.{Content, content}
use Rattle.script_read.specs.declared.lines.What.{What}
use Rattle.script_read.specs.declared.lines.What.TheVariants.{Put, Take, Close, Ack, Release, Lock, Unlock, Steal}
use Rattle.target_core.specs.Seats.{Seats, seat_at}
use Rattle.queue_model.specs.declared.rows.Slip.{Slip}
use Rattle.line_core.specs.Hands.{Hand, same_hand}
use Rattle.workers_core.specs.Hold.{MineOn}
use Rattle.workers_core.specs.Jobs.{puts_to, takes_for, gains}
use Rattle.line_core.specs.Places.{IsReady}
use Rattle.workers_core.specs.declared.jobs.Aid.{Aid}
use Rattle.workers_core.specs.declared.jobs.Aid.TheVariants as aid
use Rattle.workers_core.specs.declared.jobs.Job.{Job}

-- each pass is one of the queue in its place
abbrev pub AllServe : {Q P : Type 0} → (Q → P → Type 0) → List Q → List P → Type 0
AllServe {Q} {P} serves queues passes =
    (i : ℕ) (q : Q) (p : P) → slice_get queues i ≡ Some q → slice_get passes i ≡ Some p → serves q p

-- the hands, on all passes of an actor
pub record Holds (sights : List Sight) (hands : List Hand) : Type 0 where
  pub mine : (q : ℕ) (t : Sight) → slice_get sights q ≡ Some t → AllByRecursion (MineOn t q) hands
  pub within : AllByRecursion (λ k. k.queue < length sights) hands
  pub apart : Apart same_hand hands

-- a slip that a message may have in the queue of a pass
pub record IsSlipFor (t : Sight) (m : Content) (slip : Slip) : Type 0 where
  pub fits : FitsQueue t.opening.lists t.opening.consumers slip
  pub id : slip.id ≡ m.id
  pub size : slip.size ≡ length (content m)

-- The line is on one of these passes' queues, and what is beside it is right for that pass. Transactions aren't served.
abbrev pub Serves : List Sight → What → Aid → Type 0
Serves sights (Put q m) (aid.Slip slip) = (t : Sight) × (slice_get sights q ≡ Some t) × IsSlipFor t m slip
Serves sights (Take c) (aid.Place q k) = (t : Sight) × (slice_get sights q ≡ Some t) × (c < 64) × Mem k t.consumers
Serves sights (Close c) other = c < 64
Serves sights (Ack q id) other = q < length sights
Serves sights (Release q id) other = q < length sights
Serves sights (Lock q id) other = q < length sights
Serves sights (Unlock q id) other = q < length sights
Serves sights (Steal q id) other = q < length sights
Serves sights what other = ⊥

abbrev pub ServesJob : List Sight → Job → Type 0
ServesJob sights job = Serves sights job.op.what job.aid

-- each pass may reserve and draw as much as these lines put to its queue
abbrev pub MayPutAll : List Sight → List Job → Type 0
MayPutAll sights jobs = (q : ℕ) (t : Sight) → slice_get sights q ≡ Some t
    → (count_by (λ j. puts_to q j.op.what) jobs ≤ t.allowance) × (count_by (λ j. puts_to q j.op.what) jobs ≤ t.share)

-- each target that stands has room for the takes of these lines, or for as many as its limit leaves
abbrev pub MayTakeAll : Seats → List Job → Type 0
MayTakeAll seats jobs = (c : ℕ) → IsReady (count_by (λ j. takes_for c j.op.what) jobs) (seat_at seats c)

-- how many entries these lines may gain
abbrev pub all_gains : List Job → ℕ
all_gains jobs = sum_by (λ j. gains j.op.what) jobs

-- What a line leaves of its passes: each is of the same caller, and knows the same opening and consumers; and it may
-- reserve and draw one less at most, where the line puts to its queue.
pub record Spends (what : What) (olds news : List Sight) : Type 0 where
  pub as_many : length news ≡ length olds
  pub opening : (q : ℕ) (s t : Sight) → slice_get olds q ≡ Some s → slice_get news q ≡ Some t → t.opening ≡ s.opening
  pub caller : (q : ℕ) (s t : Sight) → slice_get olds q ≡ Some s → slice_get news q ≡ Some t → t.caller ≡ s.caller
  pub consumers : (q : ℕ) (s t : Sight) → slice_get olds q ≡ Some s → slice_get news q ≡ Some t
      → t.consumers ≡ s.consumers
  pub allowance : (q : ℕ) (s t : Sight) → slice_get olds q ≡ Some s → slice_get news q ≡ Some t
      → s.allowance ≤ t.allowance + (if puts_to q what then 1 else 0)
  pub share : (q : ℕ) (s t : Sight) → slice_get olds q ≡ Some s → slice_get news q ≡ Some t
      → s.share ≤ t.share + (if puts_to q what then 1 else 0)
