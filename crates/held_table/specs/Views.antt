-- what stands in the view of a pass
use Rattle.std.specs.Prelude.{ℕ, zero, suc, ◌==◌, Bool, true, false, not, if◌then◌else◌, Option, Some, None, List, [], ◌∷◌, ◌++◌, filter}
use Rattle.queue_model.specs.declared.deeds.Deed.{Deed}
use Rattle.queue_model.specs.State.{empty}
use Rattle.history_lock.specs.declared.view.View.{View}
use Rattle.history_lock.specs.Views.{spent}
use Rattle.held_table.specs.declared.view.Outset.{Outset}

-- the view of a badge that has one
abbrev pub view_in : List (View Outset Deed) → View Outset Deed
view_in [] = spent
view_in (v ∷ vs) = v

-- the callers behind a pass's own
abbrev pub rest_of : List ℕ → List ℕ
rest_of [] = []
rest_of (k ∷ ks) = ks

-- how the queue of a live view began
abbrev pub outset_or : Option Outset → Outset
outset_or None = record { opening = empty 1 64; rows = 0 }
outset_or (Some p) = p

abbrev pub outset_in : View Outset Deed → Outset
outset_in v = outset_or v.opening

-- Consumers

-- whether k is in the list
abbrev pub is_in : ℕ → List ℕ → Bool
is_in k [] = false
is_in k (x ∷ xs) = if x == k then true else is_in k xs

-- the numbers of the second list that are not in the first
abbrev pub not_in : List ℕ → List ℕ → List ℕ
not_in cs xs = filter (λ x. not (is_in x cs)) xs

-- the numbers below n
abbrev pub below : ℕ → List ℕ
below zero = []
below (suc n) = below n ++ n ∷ []
