-- the order in which a queue hands out its entries
use Rattle.std.specs.Prelude.{◌≡◌, ℕ, ◌<◌, ◌⊎◌, Option, Some, None, List}
use Rattle.std.specs.List.{position_or_len}
use Rattle.std.specs.Cmp.Lexicographic.{slice_cmp}
use Rattle.std.specs.Ordering.{nat_cmp}
use Rattle.std.specs.declared.cmp.Ordering.TheVariants.{Less}
use Rattle.queue_model.specs.declared.rows.Row.{Row}
use Rattle.queue_model.specs.declared.queues.Queue.{Queue}
use Rattle.queue_model.specs.State.{is_row, place_at}

-- how a kind of queue orders its entries
pub data Order : Type 0 where
  -- the higher list first, then by place: standard and priority queues
  ByList : Order
  -- by key in byte order, then by arrival; rows without a key last: sorted queues
  ByKey : Order
  -- by arrival: last-value queues
  ByArrival : Order

-- when a row came, among the rows of all lists
abbrev pub arrival : Queue → Row → ℕ
arrival q x = position_or_len (is_row x.number) q.rows

-- the first key is before the second in byte order; no key is after every key
abbrev pub KeyBefore : Option (List ℕ) → Option (List ℕ) → Type 0
KeyBefore (Some a) (Some b) = slice_cmp nat_cmp a b ≡ Less
KeyBefore (Some a) None = Unit {0}
KeyBefore None k = ⊥

-- row x comes before row y in queue order
abbrev pub Precedes : Order → Queue → Row → Row → Type 0
Precedes ByList q x y = (y.slip.list < x.slip.list) ⊎ ((x.slip.list ≡ y.slip.list) × (place_at q x.number < place_at q y.number))
Precedes ByKey q x y = KeyBefore x.slip.key y.slip.key ⊎ ((x.slip.key ≡ y.slip.key) × (arrival q x < arrival q y))
Precedes ByArrival q x y = arrival q x < arrival q y

-- row x comes before row y in oldest order: the lower list first on a priority queue, by arrival on the others
abbrev pub IsOlder : Order → Queue → Row → Row → Type 0
IsOlder ByList q x y = (x.slip.list < y.slip.list) ⊎ ((x.slip.list ≡ y.slip.list) × (place_at q x.number < place_at q y.number))
IsOlder ByKey q x y = arrival q x < arrival q y
IsOlder ByArrival q x y = arrival q x < arrival q y
