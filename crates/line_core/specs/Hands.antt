-- what an actor has of its queues' entries
use Rattle.std.specs.Prelude.{ℕ, ◌-◌, Bool, ◌&&◌, ◌==◌, not, if◌then◌else◌, Option, Some, None, List, [], ◌∷◌, ◌++◌, filter, find, length, map, slice_get}
use Rattle.acts_core.specs.Load.{Load}

-- An entry in an actor's hands: its queue, its row there and its id; and where it is locked its cargo, with the count
-- that it goes back with.
pub record Hand : Type 0 where
  pub queue : ℕ
  pub row : ℕ
  pub id : ℕ
  pub cargo : Option Load

-- the entry of this queue, row, id and cargo
abbrev pub hand : ℕ → ℕ → ℕ → Option Load → Hand
hand q r id cargo = record { queue = q; row = r; id = id; cargo = cargo }

-- the entry is of queue q
abbrev pub is_of : ℕ → Hand → Bool
is_of q k = k.queue == q

-- the entry has this id, and is of queue q
abbrev pub is_this : ℕ → ℕ → Hand → Bool
is_this q id k = (k.queue == q) && (k.id == id)

-- both are one entry
abbrev pub same_hand : Hand → Hand → Bool
same_hand j k = is_this j.queue j.id k

-- the last of a list
abbrev pub last_of : List Hand → Option Hand
last_of hands = slice_get hands (length hands - 1)

-- what a line means: the entry of this id, or the last one of the queue
abbrev pub meant : ℕ → Option ℕ → List Hand → Option Hand
meant q (Some id) hands = find (is_this q id) hands
meant q None hands = last_of (filter (is_of q) hands)

-- without the entry of this id
abbrev pub without : ℕ → ℕ → List Hand → List Hand
without q id hands = filter (λ k. not (is_this q id k)) hands

-- the entry came: it stands last, and one of its id no more
abbrev pub gained : Hand → List Hand → List Hand
gained k hands = without k.queue k.id hands ++ k ∷ []

-- the entry of this id is now so, in its place
abbrev pub replaced : Hand → List Hand → List Hand
replaced k hands = map (λ j. if is_this k.queue k.id j then k else j) hands

-- the entry went
abbrev pub lost : Hand → List Hand → List Hand
lost k hands = without k.queue k.id hands
