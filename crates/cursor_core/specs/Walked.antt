-- what a walk along a list has shown so far
use Rattle.std.specs.Prelude.{ℕ, ◌≤◌, List}
use Rattle.queue_model.specs.declared.deeds.Deed.{Deed}
use Rattle.queue_model.specs.declared.queues.Queue.{Queue}
use Rattle.queue_model.specs.History.{after}
use Rattle.acts_core.specs.Owed.{Has, mark, Looked}
use Rattle.acts_core.specs.Walks.{reach, IsStop}
use Rattle.cursor_core.specs.Truths.{IsWithin, LookedOr}

-- so many places of list l are up to some stop of it
abbrev pub IsBound : Queue → ℕ → ℕ → Type 0
IsBound q l n = (w : ℕ) × IsStop q l w × (n ≤ reach q w)

-- The first n places of list l are done: each row there that was owed at the beginning was not free when looked at, and each
-- row there was, or is rung for.
pub record Walked (o : Queue) (c l n : ℕ) (begin seen : List Deed) : Type 0 where
  pub bound : IsBound (after o seen) l n
  pub owed : (e : ℕ) → IsWithin (after o seen) l n e → Has (after o begin) e → Looked o c e (mark c e begin) seen
  pub good : (e : ℕ) → IsWithin (after o seen) l n e → LookedOr o c e seen

-- what a walk answers for: each row of list l that was owed at the beginning, at a place before n
abbrev pub Answers : Queue → ℕ → ℕ → ℕ → List Deed → List Deed → Type 0
Answers o c l n begin seen = (e : ℕ) → IsWithin (after o begin) l n e → Looked o c e (mark c e begin) seen
