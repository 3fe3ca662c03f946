-- what contracts see of a queue, and of a pass: what one caller knows of a queue and may do with it
use Rattle.std.specs.Prelude.{◌≡◌, ℕ, Bool, true, false, ◌==◌, Some, List, length, find}
use mathlib.Core.List.{Mem}
use Rattle.queue_model.specs.declared.deeds.Deed.{Deed}
use Rattle.queue_model.specs.declared.queues.Queue.{Queue}
use Rattle.queue_model.specs.declared.steps.Node.TheVariants as nodes
use Rattle.queue_model.specs.declared.steps.Step.{Step}
use Rattle.queue_model.specs.declared.steps.Step.TheVariants as steps
use Rattle.queue_model.specs.declared.steps.Tried.{Tried}
use Rattle.queue_model.specs.declared.steps.WordName.TheVariants as names
use Rattle.queue_model.specs.History.{after}
use Rattle.queue_model.specs.Order.{Order, ByList, ByKey, ByArrival}

-- Queues

-- the kinds of queue
pub data Kind : Type 0 where
  -- standard and priority queues: lists that many threads walk at once
  Listed : Kind
  -- sorted queues: held, which is to say one lock round a one-thread queue
  Sorted : Kind
  -- last-value queues: held too
  LastValue : Kind

-- whether it is a kind of held queue
abbrev pub IsHeldKind : Kind → Type 0
IsHeldKind Listed = ⊥
IsHeldKind kind = Unit {0}

-- how a kind of queue orders its entries
abbrev pub order_of : Kind → Order
order_of Listed = ByList
order_of Sorted = ByKey
order_of LastValue = ByArrival

-- what contracts see of a queue; it never changes
pub record Build : Type 0 where
  pub kind : Kind
  -- whether its calls ring and take the bells of consumers
  pub bells : Bool
  -- how many rows it has room for, those of the opening among them
  pub rows : ℕ

-- a listed queue whose calls neither ring nor take bells
abbrev pub silent_lists : ℕ → Build
silent_lists rows = record { kind = Listed; bells = false; rows = rows }

-- what the meaning of a queue's calls goes by: the state before its history, and how it is built
pub record Plan : Type 0 where
  pub opening : Queue
  pub kind : Kind
  pub bells : Bool

-- the plan of a queue that is built so and began with this opening
abbrev pub plan_of : Build → Queue → Plan
plan_of build opening = record { opening = opening; kind = build.kind; bells = build.bells }

-- Passes

-- what contracts see of a pass
pub record Sight : Type 0 where
  -- the state of the queue before its history
  pub opening : Queue
  -- the caller that the pass is of
  pub caller : ℕ
  -- the consumers whose bells this pass alone takes
  pub consumers : List ℕ
  -- how many entries it may still reserve
  pub allowance : ℕ
  -- how many rows it may still draw for its puts
  pub share : ℕ
  -- the callers whose passes ended and were joined into it
  pub ended : List ℕ
  -- of the pass of caller 0: how many callers were made
  pub made : ℕ
  -- the deeds that it knows to begin the queue's history
  pub seen : List Deed
  -- the steps that it tried on the words of a listed queue, and what each showed; none on a held queue
  pub shown : List Tried
  -- how often it has held the lock of a held queue; 0 on a listed one
  pub turns : ℕ

-- the state of the queue after all that the pass has seen
abbrev pub known : Sight → Queue
known s = after s.opening s.seen

-- What the steps of a call tell

-- the step is on the head link of list l
abbrev pub on_head : ℕ → Step → Bool
on_head l (steps.Load (names.Link (nodes.Head m))) = m == l
on_head l (steps.Link r (nodes.Head m)) = m == l
on_head l (steps.Unlink (nodes.Head m) from to) = m == l
on_head l s = false

-- the step is on the state word of row r
abbrev pub on_state_of : ℕ → Step → Bool
on_state_of r (steps.Load (names.State s)) = s == r
on_state_of r (steps.State s change from) = s == r
on_state_of r s = false

-- the step is on the depth word
abbrev pub on_depth : Step → Bool
on_depth (steps.Load names.Depth) = true
on_depth (steps.Reserve size) = true
on_depth (steps.GiveBack size) = true
on_depth s = false

-- what is known of the steps of a call: nothing, or each step that it tried, in order
pub data Evidence : Type 0 where
  Forgotten : Evidence
  Showed : List Tried → Evidence

-- one of the steps, which passes the test, showed this word when so much was seen
abbrev pub Told : Evidence → (Step → Bool) → ℕ → List Deed → Type 0
Told Forgotten on word seen = Unit {0}
Told (Showed added) on word seen =
    (t : Tried) × Mem t added × (on t.step ≡ true) × (t.before ≡ word) × (t.length ≡ length seen)

-- the first of the steps on the head link of list l was when so much was seen
abbrev pub Starts : Evidence → ℕ → List Deed → Type 0
Starts Forgotten l seen = Unit {0}
Starts (Showed added) l seen =
    (t : Tried) × (find (λ x. on_head l x.step) added ≡ Some t) × (t.length ≡ length seen)
