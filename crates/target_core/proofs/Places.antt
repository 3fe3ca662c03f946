-- what a list of places says of one of them
use Rattle.std.proofs.Common.{◌≡◌, ℕ, ◌<◌, List, length, get_or, map, slice_set, Option, None, sym, ◌∙◌, ap, subst, inl, inr}
use Rattle.std.specs.Prelude.{Result}
use Rattle.std.specs.Option.{option_map}
use Rattle.std.proofs.lemmas.List.{map-set, length-set, get_or-set_same}
use Rattle.std.proofs.lemmas.Option.{slice_get-map, slice_get-get_or, slice_get_cases}
use Rattle.target_core.specs.declared.deliveries.Delivery.{Delivery}
use Rattle.target_core.specs.declared.rosters.Handed.{Handed}
use Rattle.target_core.specs.Seats.{Seat, in_place, seat_at, HasRoomWithin}
use Rattle.target_core.specs.Hands.{HandsPlace, HandsRoster, PreparesPlace, PreparesRoster}

-- the target in a place
pub seat_at-map : {A : Type 0} (f : A → Option Seat) (xs : List A) (c : ℕ) (d : A) → c < length xs → seat_at (map f xs) c ≡ f (get_or xs c d)
seat_at-map f xs c d within = ap in_place (slice_get-map f xs c ∙ ap (option_map f) (slice_get-get_or xs c d within))

-- the target in a place that was written
pub seat_at-set : {A : Type 0} (f : A → Option Seat) (xs : List A) (c : ℕ) (y : A) → c < length xs → seat_at (map f (slice_set xs c y)) c ≡ f y
seat_at-set f xs c y within =
    let there : c < length (slice_set xs c y) = subst (λ n. c < n) (sym (length-set xs c y)) within in
    seat_at-map f (slice_set xs c y) c y there ∙ ap f (get_or-set_same xs c y y within)

-- a written place is the only one that changed
pub only_set : {A : Type 0} (f : A → Option Seat) (xs : List A) (c : ℕ) (y : A) → c < length xs → map f (slice_set xs c y) ≡ slice_set (map f xs) c (seat_at (map f (slice_set xs c y)) c)
only_set f xs c y within =
    map-set f xs c y ∙ ap (λ s. slice_set (map f xs) c s) (sym (seat_at-set f xs c y within))

-- a target was taken out of its place
pub taken_out : {A : Type 0} (f : A → Seat) (xs : List (Option A)) (c : ℕ) (y : Option A) → y ≡ None → map (option_map f) (slice_set xs c y) ≡ slice_set (map (option_map f) xs) c None
taken_out f xs c y none = map-set (option_map f) xs c y ∙ ap (λ o. slice_set (map (option_map f) xs) c (option_map f o)) none

-- and put into another list of places
pub moved_in : {A : Type 0} (f : A → Option Seat) (xs ys : List A) (c : ℕ) (d x : A) → c < length xs → x ≡ get_or xs c d → map f (slice_set ys c x) ≡ slice_set (map f ys) c (seat_at (map f xs) c)
moved_in f xs ys c d x within taken =
    map-set f ys c x ∙ ap (λ s. slice_set (map f ys) c s) (ap f taken ∙ sym (seat_at-map f xs c d within))

-- the room of the target in a place
pub room_at : {A : Type 0} (f : A → Option Seat) (xs : List A) (c : ℕ) (d : A) (room : Option ℕ) → c < length xs → room ≡ option_map (λ s. s.room) (f (get_or xs c d)) → room ≡ option_map (λ s. s.room) (seat_at (map f xs) c)
room_at f xs c d room within told = told ∙ ap (option_map (λ s. s.room)) (sym (seat_at-map f xs c d within))

-- and that it is not above what the limit leaves
pub within_at : {A : Type 0} (f : A → Option Seat) (xs : List A) (c : ℕ) (d : A) → c < length xs → HasRoomWithin (f (get_or xs c d)) → HasRoomWithin (seat_at (map f xs) c)
within_at f xs c d within has = subst HasRoomWithin (sym (seat_at-map f xs c d within)) has

-- a delivery to the target in a place
pub hands_roster : {A : Type 0} (f : A → Option Seat) (xs : List A) (d : Delivery) (answer : Handed) (x y : A) → d.consumer < length xs → HandsPlace answer (f (get_or xs d.consumer x)) (f y) d → HandsRoster answer (map f xs) (map f (slice_set xs d.consumer y)) d
hands_roster f xs d answer x y within hands = record {
  only = only_set f xs d.consumer y within;
  place = subst (λ old. HandsPlace answer old (seat_at (map f (slice_set xs d.consumer y)) d.consumer) d) (sym (seat_at-map f xs d.consumer x within)) (subst (λ new. HandsPlace answer (f (get_or xs d.consumer x)) new d) (sym (seat_at-set f xs d.consumer y within)) hands);
}

-- memory for the target in a place
pub prepares_roster : {A E : Type 0} (f : A → Option Seat) (xs : List A) (c more : ℕ) (result : Result (Unit {0}) E) (x y : A) → c < length xs → PreparesPlace result more (f (get_or xs c x)) (f y) → PreparesRoster result c more (map f xs) (map f (slice_set xs c y))
prepares_roster f xs c more result x y within prepares = record {
  only = only_set f xs c y within;
  place = subst (λ old. PreparesPlace result more old (seat_at (map f (slice_set xs c y)) c)) (sym (seat_at-map f xs c x within)) (subst (λ new. PreparesPlace result more (f (get_or xs c x)) new) (sym (seat_at-set f xs c y within)) prepares);
}

-- no target stands where each place is empty
pub none_at : {A : Type 0} (f : A → Seat) (slots : List (Option A)) (n : ℕ) → length slots ≡ n → ((k : ℕ) → k < n → get_or slots k None ≡ None) → (c : ℕ) → seat_at (map (option_map f) slots) c ≡ None
none_at f slots n long none c = elim (slice_get_cases slots c).1 [
  | inl (x, within, at, read) ↦ seat_at-map (option_map f) slots c None within ∙ ap (option_map f) (none c (subst (λ m. c < m) long within))
  | inr (past, at) ↦ ap in_place (slice_get-map (option_map f) slots c ∙ ap (option_map (option_map f)) at)
]
