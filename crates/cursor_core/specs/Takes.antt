-- what acquiring a row comes to, and a walk of one list to the first row that is available
use Rattle.std.specs.Prelude.{◌≡◌, ℕ, Option, Some, None, List, [], ◌∷◌, ◌++◌}
use mathlib.Core.List.{IsPrefix}
use Rattle.queue_model.specs.declared.deeds.Act.TheVariants.{Acq}
use Rattle.queue_model.specs.declared.deeds.Deed.{Deed}
use Rattle.queue_model.specs.declared.rows.RowState.TheVariants.{Available}
use Rattle.queue_model.specs.declared.steps.Tried.{Tried}
use Rattle.queue_model.specs.History.{after, deed}
use Rattle.acts_core.specs.Lists.{Gets}
use Rattle.acts_core.specs.Load.{Load}
use Rattle.acts_core.specs.Moments.{HandsOut}
use Rattle.acts_core.specs.Sight.{Sight}
use Rattle.acts_core.specs.Steps.{Stepped, SameRights, NoHeads}
use Rattle.acts_core.specs.Walks.{Ready, Misses, Ended, Reached}
use Rattle.scavenge_core.specs.Shown.{looks, hops}

-- Row r was acquired by the last deed that was seen: it was available just before, and its cargo was handed out. One step
-- was on a state, and none on a link.
pub record Acquires (old new : Sight) (r : ℕ) (load : Load) : Type 0 where
  pub added : List Tried
  pub steps : Stepped old new (Acq r ∷ []) added
  pub rights : SameRights old new
  pub heads : NoHeads added
  pub moment : List Deed
  pub later : IsPrefix old.seen moment
  pub whole : moment ++ deed old.caller (Acq r) ∷ [] ≡ new.seen
  pub hands : HandsOut (after old.opening moment) r load
  pub ready : hands.row.state ≡ Available
  pub looks : looks added ≡ 1
  pub hops : hops added ≡ 0

-- or it was not available, when one step looked at its state
pub record MissesReady (old new : Sight) (r : ℕ) : Type 0 where
  pub misses : Misses old new Ready r
  pub looks : looks misses.added ≡ 1
  pub hops : hops misses.added ≡ 0

-- an available row was acquired, or it was not available
abbrev pub TakesReady : Sight → Sight → ℕ → Option Load → Type 0
TakesReady old new r None = MissesReady old new r
TakesReady old new r (Some load) = Acquires old new r load

-- a walk of list l acquired row r, which was available
pub record GotReady (old new : Sight) (l r : ℕ) (load : Load) : Type 0 where
  pub reached : Reached old new Ready l r (Acq r ∷ [])
  pub gets : Gets old.opening old.caller old.seen new.seen r l load (λ x. x.state ≡ Available)

-- a walk acquired a row of the list with its cargo, or came to the list's end
abbrev pub WalksReady : {C : Type 0} → (C → Load) → Sight → Sight → ℕ → Option (ℕ × C) → Type 0
WalksReady load old new l None = Ended old new Ready l
WalksReady load old new l (Some d) = GotReady old new l d.0 (load d.1)
