-- the calls of one caller, one after the other
use Rattle.std.specs.Prelude.{◌≡◌, ℕ, List, [], ◌∷◌, ◌++◌}
use mathlib.Core.List.{IsPrefix}
use Rattle.queue_model.specs.declared.deeds.Act.{Act}
use Rattle.queue_model.specs.declared.deeds.Deed.{Deed}
use Rattle.queue_model.specs.History.{own}
use Rattle.acts_core.specs.Calls.{Call, Answer, acts_of}
use Rattle.acts_core.specs.Meaning.{Meets}
use Rattle.acts_core.specs.Sight.{Plan}

-- a call that was made, between two beginnings of its queue's history
pub record Made : Type 0 where
  pub call : Call
  pub answer : Answer
  pub before : List Deed
  pub later : List Deed

-- the history went on without an act of the caller
pub record Quiet (h : ℕ) (s0 s1 : List Deed) : Type 0 where
  pub grows : IsPrefix s0 s1
  pub own_acts : own h s1 ≡ own h s0

-- the calls of h in order, each with its meaning, lead from one beginning of the history to another
abbrev pub Chain : Plan → ℕ → List Deed → List Made → List Deed → Type 0
Chain p h from [] to = Quiet h from to
Chain p h from (m ∷ ms) to = Quiet h from m.before × Meets p h m.before m.later m.call m.answer × Chain p h m.later ms to

-- the acts of the calls, in order
abbrev pub acts_in : Plan → List Made → List Act
acts_in p [] = []
acts_in p (m ∷ ms) = acts_of p m.call m.answer ++ acts_in p ms
