-- the held list of an actor, as hands
use Rattle.std.specs.Prelude.{◌≡◌, ℕ, Option, Some, None, List, map, slice_get}
use Rattle.std.specs.Option.{option_map}
use Rattle.txn_core.specs.Parcels.{load_of}
use Rattle.line_core.specs.Hands.{Hand, meant, lost}
use Rattle.workers_core.specs.declared.held.Kept.{Kept}

-- what contracts see of a held entry
abbrev pub hand_of : Kept → Hand
hand_of k = record { queue = k.queue; row = k.row; id = k.id; cargo = option_map load_of k.cargo }

-- and of a list of them
abbrev pub hands_of : List Kept → List Hand
hands_of kepts = map hand_of kepts

-- where the entry that a line means is among the hands
abbrev pub IsMeant : Option ℕ → ℕ → Option ℕ → List Hand → Type 0
IsMeant None q id hands = meant q id hands ≡ None
IsMeant (Some i) q id hands = (k : Hand) × (slice_get hands i ≡ Some k) × (meant q id hands ≡ Some k) × (k.queue ≡ q)

-- the entry that a line means was taken out of the hands
pub record TakesMeant (q : ℕ) (named : Option ℕ) (hands hands' : List Hand) (k : Hand) : Type 0 where
  pub at : ℕ
  pub there : slice_get hands at ≡ Some k
  pub is_meant : meant q named hands ≡ Some k
  pub without_it : hands' ≡ lost k hands
