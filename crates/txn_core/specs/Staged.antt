-- staged puts and acknowledgements as contracts see them
use Rattle.std.specs.Prelude.{◌≡◌, ℕ, ◌+◌, List, [], ◌∷◌, Option, Some, None}
use Rattle.txn_core.specs.declared.staging.Staged.{Staged}

-- what is staged, in order, and how many more there is room for
pub record StagedList : Type 0 where
  pub list : List Staged
  pub room : ℕ

-- the first was taken out, and its room is back; or there was none
abbrev pub Popped : Option Staged → StagedList → StagedList → Type 0
Popped (Some staged) old new = (old.list ≡ staged ∷ new.list) × (new.room ≡ old.room + 1)
Popped None old new = (old.list ≡ []) × (new ≡ old)
