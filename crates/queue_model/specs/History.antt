-- histories: lists of deeds, the oldest first
use Rattle.std.specs.Prelude.{◌≡◌, ℕ, Bool, ◌==◌, List, [], ◌∷◌, filter}
use Rattle.queue_model.specs.declared.deeds.Act.{Act}
use Rattle.queue_model.specs.declared.deeds.Deed.{Deed}
use Rattle.queue_model.specs.declared.queues.Queue.{Queue}
use Rattle.queue_model.specs.Table.{Can, acted}

-- the state after all deeds in order
abbrev pub after : Queue → List Deed → Queue
after q [] = q
after q (d ∷ ds) = after (acted q d.caller d.act) ds

-- each deed has a step where it stands
abbrev pub Legal : Queue → List Deed → Type 0
Legal q [] = Unit {0}
Legal q (d ∷ ds) = Can q d.caller d.act × Legal (acted q d.caller d.act) ds

-- caller h does the deed
abbrev pub is_by : ℕ → Deed → Bool
is_by h d = d.caller == h

-- the deeds of one caller, in order
abbrev pub own : ℕ → List Deed → List Deed
own h ds = filter (is_by h) ds

-- caller h does this act
abbrev pub deed : ℕ → Act → Deed
deed h a = record { caller = h; act = a }

-- the acts of one caller as its deeds
abbrev pub deeds_of : ℕ → List Act → List Deed
deeds_of h [] = []
deeds_of h (a ∷ acts) = deed h a ∷ deeds_of h acts

-- These acts of a caller lead from one state to another, and each has its step.
pub record Does (old : Queue) (h : ℕ) (acts : List Act) (new : Queue) : Type 0 where
  pub legal : Legal old (deeds_of h acts)
  pub state : new ≡ after old (deeds_of h acts)
