-- what calls do to targets
use Rattle.std.specs.Prelude.{◌≡◌, ℕ, ◌<◌, ◌≤◌, Bool, true, false, length, Option, Some, None, slice_set, Result, Ok, Err}
use Rattle.target_core.specs.declared.deliveries.Delivery.{Delivery}
use Rattle.target_core.specs.declared.rosters.Handed.{Handed}
use Rattle.target_core.specs.declared.rosters.Handed.TheVariants.{Taken, NoCredit, Closed}
use Rattle.target_core.specs.Seats.{Seat, Seats, seat_at, served, left_of}

-- a target was handed a delivery: it took it exactly where it had room, and else nothing changed
abbrev pub HandsOver : Bool → Seat → Seat → Delivery → Type 0
HandsOver true old new d = (0 < old.room) × (new ≡ served old d)
HandsOver false old new d = (old.room ≡ 0) × (new ≡ old)

-- a target was prepared: what it has and its limit stay, and its room did not shrink
pub record Stays (old new : Seat) : Type 0 where
  pub deliveries : new.deliveries ≡ old.deliveries
  pub limit : new.limit ≡ old.limit
  pub room : old.room ≤ new.room

-- and where memory was there, it has room for as many more as its limit leaves
abbrev pub Prepares : {E : Type 0} → Result (Unit {0}) E → ℕ → Seat → Seat → Type 0
Prepares (Ok u) more old new = Stays old new × (left_of new.limit (length new.deliveries) more ≤ new.room)
Prepares (Err e) more old new = Stays old new

-- the same of the target of a consumer, and nothing where none stands
abbrev pub PreparesPlace : {E : Type 0} → Result (Unit {0}) E → ℕ → Option Seat → Option Seat → Type 0
PreparesPlace result more (Some old) (Some new) = Prepares result more old new
PreparesPlace (Ok u) more None None = Unit {0}
PreparesPlace result more old new = ⊥

-- what the target of a consumer answered to a delivery, and how it was before and is now
abbrev pub HandsPlace : Handed → Option Seat → Option Seat → Delivery → Type 0
HandsPlace Taken (Some old) (Some new) d = (0 < old.room) × (new ≡ served old d)
HandsPlace NoCredit (Some old) (Some new) d = (old.room ≡ 0) × (new ≡ old)
HandsPlace Closed None None d = Unit {0}
HandsPlace answer old new d = ⊥

-- what a roster answered to a delivery: only the target of the delivery's consumer may have changed
pub record HandsRoster (answer : Handed) (old new : Seats) (d : Delivery) : Type 0 where
  pub only : new ≡ slice_set old d.consumer (seat_at new d.consumer)
  pub place : HandsPlace answer (seat_at old d.consumer) (seat_at new d.consumer) d

-- what a roster did to prepare the target of a consumer
pub record PreparesRoster {E : Type 0} (result : Result (Unit {0}) E) (consumer more : ℕ) (old new : Seats) : Type 0 where
  pub only : new ≡ slice_set old consumer (seat_at new consumer)
  pub place : PreparesPlace result more (seat_at old consumer) (seat_at new consumer)
