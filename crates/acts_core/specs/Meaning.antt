-- the meaning of each call
use Rattle.std.specs.Prelude.{◌≡◌, ◌≢◌, ℕ, ◌+◌, ◌-◌, ◌<◌, List, ◌++◌}
use mathlib.Core.List.{IsPrefix, Mem}
use Rattle.queue_model.specs.declared.deeds.Deed.{Deed}
use Rattle.queue_model.specs.declared.steps.Tried.{Tried}
use Rattle.queue_model.specs.History.{after, Legal, own, deeds_of}
use Rattle.acts_core.specs.Calls.{Call, CallReserve, CallGiveBack, CallPut, CallDequeue, Answer, IsAt, IsSpent, acts_of}
use Rattle.acts_core.specs.Held.{Means}
use Rattle.acts_core.specs.Lists.{ListMeans}
use Rattle.acts_core.specs.Moments.{BeforeAll}
use Rattle.acts_core.specs.Owed.{taken_any}
use Rattle.acts_core.specs.Sight.{Kind, Listed, Build, Plan, plan_of, Sight, Evidence, Forgotten, Showed}

-- Over histories

-- a held queue served the call at one moment, with its acts at the end
pub record Served (kind : Kind) (p : Plan) (h : ℕ) (s0 s1 : List Deed) (call : Call) (answer : Answer) : Type 0 where
  pub moment : List Deed
  pub before : BeforeAll s0 s1 (deeds_of h (acts_of p call answer)) moment
  pub means : Means kind (after p.opening moment) h call answer

-- what holds of a call on a held queue and its answer, besides its acts; nothing is put where the caller has no row left
abbrev pub HeldMeans : Kind → Plan → ℕ → List Deed → List Deed → Call → Answer → Type 0
HeldMeans kind p h s0 s1 (CallPut slip load) (IsSpent back) = back ≡ load
HeldMeans kind p h s0 s1 call answer = Served kind p h s0 s1 call answer

-- what holds of a call and its answer, besides its acts
abbrev pub Besides : Evidence → Plan → ℕ → List Deed → List Deed → Call → Answer → Kind → Type 0
Besides v p h s0 s1 call answer Listed = ListMeans v p h s0 s1 call answer
Besides v p h s0 s1 call answer kind = HeldMeans kind p h s0 s1 call answer

-- A call of h with its answer, between two beginnings of the history: its acts, and no other of h, came between them.
pub record MeetsBy (v : Evidence) (p : Plan) (h : ℕ) (s0 s1 : List Deed) (call : Call) (answer : Answer) : Type 0 where
  pub grows : IsPrefix s0 s1
  pub legal : Legal p.opening s1
  pub own_acts : own h s1 ≡ own h s0 ++ deeds_of h (acts_of p call answer)
  pub besides : Besides v p h s0 s1 call answer p.kind

-- the meaning of a call, over histories alone
abbrev pub Meets : Plan → ℕ → List Deed → List Deed → Call → Answer → Type 0
Meets p h s0 s1 call answer = MeetsBy Forgotten p h s0 s1 call answer

-- Over passes

-- how many entries may still be reserved after a call: one less after a reserve, one more after a give back or a dequeue
abbrev pub allowance_after : Call → ℕ → ℕ
allowance_after (CallReserve size) n = n - 1
allowance_after (CallGiveBack size) n = n + 1
allowance_after (CallDequeue r) n = n + 1
allowance_after call n = n

-- how many rows may still be drawn after a call: one less after a put
abbrev pub share_after : Call → Answer → ℕ → ℕ
share_after (CallPut slip load) (IsAt r displaced) n = n - 1
share_after call answer n = n

-- a put answers that no row is left exactly where none was
abbrev pub Shares : Answer → ℕ → Type 0
Shares (IsAt r displaced) n = 0 < n
Shares (IsSpent back) n = n ≡ 0
Shares answer n = Unit {0}

-- how often the lock was held after a call: once more, where there is one
abbrev pub turns_after : Kind → ℕ → ℕ
turns_after Listed n = n
turns_after kind n = n + 1

-- A call on a pass, with what the pass was shown. It leaves the caller, its consumers and its ended callers.
pub record MeetsSight (p : Plan) (old new : Sight) (call : Call) (answer : Answer) : Type 0 where
  pub added : List Tried
  pub meets : MeetsBy (Showed added) p old.caller old.seen new.seen call answer
  pub shares : Shares answer old.share
  -- nobody but this pass takes a bell of its consumers
  pub takes :
      (c : ℕ) → Mem c old.consumers
      → taken_any c new.seen ≡ taken_any c old.seen ++ taken_any c (deeds_of old.caller (acts_of p call answer))
  -- an ended caller does nothing any more
  pub ended : (k : ℕ) → Mem k old.ended → k ≢ old.caller → own k new.seen ≡ own k old.seen
  pub rest :
      new ≡ record old {
        seen = new.seen;
        shown = old.shown ++ added;
        turns = turns_after p.kind old.turns;
        allowance = allowance_after call old.allowance;
        share = share_after call answer old.share;
      }

-- the same on a queue that is built so; its history begins with the opening that the pass has
abbrev pub Called : Build → Sight → Sight → Call → Answer → Type 0
Called build old new call answer = MeetsSight (plan_of build old.opening) old new call answer
