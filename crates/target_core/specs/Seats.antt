-- what contracts see of targets, and what a delivery tells of a body
use Rattle.std.specs.Prelude.{◌≡◌, ℕ, ◌+◌, ◌-◌, ◌*◌, ◌≤◌, min, List, [], ◌∷◌, ◌++◌, length, map, slice_get, Option, Some, None}
use Rattle.std.specs.List.{flat_map}
use Rattle.target_core.specs.declared.deliveries.Delivery.{Delivery}

-- A target: what it was handed, in order; how many deliveries more it has memory for; and how many it takes
-- at most in all, where it has a limit.
pub record Seat : Type 0 where
  pub deliveries : List Delivery
  pub room : ℕ
  pub limit : Option ℕ

-- the sum of (place + 1) · byte over these bytes, the first of which has this place
abbrev pub sum_from : ℕ → List ℕ → ℕ
sum_from place [] = 0
sum_from place (b ∷ bs) = (place + 1) * b + sum_from (place + 1) bs

-- the sum of a body, whose places count from 0
abbrev pub sum_of : List ℕ → ℕ
sum_of body = sum_from 0 body

-- as many of these as a limit leaves, where so many deliveries were taken
abbrev pub left_of : Option ℕ → ℕ → ℕ → ℕ
left_of None taken more = more
left_of (Some limit) taken more = min more (limit - taken)

-- the room is not above what a limit leaves
abbrev pub IsWithin : Option ℕ → ℕ → ℕ → Type 0
IsWithin None taken room = Unit {0}
IsWithin (Some limit) taken room = room ≤ limit - taken

-- a target without deliveries and without room for any
abbrev pub empty_seat : Option ℕ → Seat
empty_seat limit = record { deliveries = []; room = 0; limit = limit }

-- a target with one delivery more
abbrev pub served : Seat → Delivery → Seat
served s d = record s { deliveries = s.deliveries ++ d ∷ []; room = s.room - 1 }

-- the targets of the consumers, by consumer number; None where none stands
abbrev pub Seats : Type 0
Seats = List (Option Seat)

-- the target of a consumer, if it stands
abbrev pub in_place : Option (Option Seat) → Option Seat
in_place None = None
in_place (Some seat) = seat

abbrev pub seat_at : Seats → ℕ → Option Seat
seat_at seats c = in_place (slice_get seats c)

-- the room of the target in a place, if one stands there, is not above what its limit leaves
abbrev pub HasRoomWithin : Option Seat → Type 0
HasRoomWithin None = Unit {0}
HasRoomWithin (Some s) = IsWithin s.limit (length s.deliveries) s.room

-- no target stands
abbrev pub IsBare : Seats → Type 0
IsBare seats = (c : ℕ) → seat_at seats c ≡ None

-- the target in a place, if one stands there
abbrev pub one_of : Option Seat → List Seat
one_of None = []
one_of (Some s) = s ∷ []

-- the targets that stand, by consumer number
abbrev pub standing : Seats → List Seat
standing seats = flat_map one_of seats

-- a target stands in each place
abbrev pub all_of : List Seat → Seats
all_of seats = map Some seats
