-- what an actor knows of the entries in its hands
use Rattle.std.specs.Prelude.{◌≡◌, ◌≢◌, ◌<◌, ℕ, Option, Some, None, List}
use Rattle.std.specs.List.{AllByRecursion}
use Rattle.queue_model.specs.declared.rows.Row.{Row}
use Rattle.queue_model.specs.Keyed.{Apart}
use Rattle.queue_model.specs.State.{row_at}
use Rattle.acts_core.specs.Hands.{InHand}
use Rattle.acts_core.specs.Load.{Load}
use Rattle.acts_core.specs.Sight.{Sight, known}
use Rattle.line_core.specs.Hands.{Hand, gained, hand, same_hand}

-- The entry is in the hands of the pass's caller: left by it, or locked by it, with the cargo that it was handed. And
-- its row has its id.
pub record Mine (t : Sight) (k : Hand) : Type 0 where
  pub row : Row
  pub found : row_at (known t) k.row ≡ Some row
  pub same_id : row.slip.id ≡ k.id
  pub stands : InHand t k.row k.cargo

-- if it is of queue q
abbrev pub MineOn : Sight → ℕ → Hand → Type 0
MineOn t q k = k.queue ≡ q → Mine t k

-- the hands, on one queue's pass
pub record Hold (t : Sight) (q : ℕ) (hands : List Hand) : Type 0 where
  pub mine : AllByRecursion (MineOn t q) hands
  pub apart : Apart same_hand hands

-- the hands, and beside them an entry that was acquired, if any: where one of its id is among them, it has its place
abbrev pub HoldsAlso : Sight → ℕ → Option (ℕ × Load) → List Hand → Type 0
HoldsAlso t q None hands = Hold t q hands
HoldsAlso t q (Some e) hands =
    Hold t q (gained (hand q e.0 e.1.id (Some e.1)) hands) × Apart same_hand hands

-- entries on other rows stay the caller's
abbrev pub Keeps : Sight → Sight → ℕ → Type 0
Keeps old new r = (k : Hand) → k.row ≢ r → Mine old k → Mine new k

-- entries of other queues than q stay in the hands, and none of them comes
pub record KeepsOthers (q : ℕ) (hands hands' : List Hand) : Type 0 where
  pub mine : (t : Sight) (r : ℕ) → (r ≡ q → ⊥) → AllByRecursion (MineOn t r) hands → AllByRecursion (MineOn t r) hands'
  pub within : (n : ℕ) → q < n → AllByRecursion (λ k. k.queue < n) hands → AllByRecursion (λ k. k.queue < n) hands'
