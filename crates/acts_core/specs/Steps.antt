-- steps of a pass, before they are a call
use Rattle.std.specs.Prelude.{◌≡◌, ◌≢◌, ℕ, Some, None, List, ◌++◌, find, length}
use mathlib.Core.List.{IsPrefix, Mem}
use Rattle.queue_model.specs.declared.deeds.Act.{Act}
use Rattle.queue_model.specs.declared.deeds.Deed.{Deed}
use Rattle.queue_model.specs.declared.steps.Tried.{Tried}
use Rattle.queue_model.specs.History.{Legal, own, deeds_of}
use Rattle.acts_core.specs.Owed.{taken_any}
use Rattle.acts_core.specs.Sight.{Sight, on_head}

-- The pass's caller did these acts and no others, the pass tried these steps, and it has seen more. What it may still
-- reserve and draw may have changed; all else of it stays.
pub record Stepped (old new : Sight) (acts : List Act) (added : List Tried) : Type 0 where
  pub grows : IsPrefix old.seen new.seen
  pub legal : Legal old.opening new.seen
  pub own_acts : own old.caller new.seen ≡ own old.caller old.seen ++ deeds_of old.caller acts
  -- nobody but this pass takes a bell of its consumers
  pub takes :
      (c : ℕ) → Mem c old.consumers
      → taken_any c new.seen ≡ taken_any c old.seen ++ taken_any c (deeds_of old.caller acts)
  -- an ended caller does nothing any more
  pub ended : (k : ℕ) → Mem k old.ended → k ≢ old.caller → own k new.seen ≡ own k old.seen
  pub rest :
      new
      ≡ record old {
        seen = new.seen;
        shown = old.shown ++ added;
        allowance = new.allowance;
        share = new.share;
      }

-- and it may reserve and draw as much as before
pub record SameRights (old new : Sight) : Type 0 where
  pub allowance : new.allowance ≡ old.allowance
  pub share : new.share ≡ old.share

-- none of the steps is on the head link of list l
abbrev pub NoHead : ℕ → List Tried → Type 0
NoHead l added = find (λ t. on_head l t.step) added ≡ None

-- none of the steps is on any head link
abbrev pub NoHeads : List Tried → Type 0
NoHeads added = (l : ℕ) → NoHead l added
