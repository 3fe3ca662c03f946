-- What a write leaves, what a crash may leave, and how a disk's moments and images go on.
use Rattle.std.specs.Prelude.{◌≡◌, ◌≤◌, ◌⊎◌, ℕ, ◌+◌, List, ◌++◌, length, take, drop, Option, Some, IsTrue, is_some}
use Rattle.outside_io.specs.Told.{WhileTold}

-- new is old with these bytes at this place, over what was there and past the end
abbrev pub Holds : ℕ → List ℕ → List ℕ → List ℕ → Type 0
Holds at bytes old new = new ≡ take at old ++ (bytes ++ drop (at + length bytes) old)

-- new is what a write of n bytes at this place may leave of old where it fails, or where a crash comes before it is
-- synced: any bytes in the range and past the old end, any end at or past the old one, and the same elsewhere
pub record Torn (at n : ℕ) (old new : List ℕ) : Type 0 where
  pub before : take at new ≡ take at old
  pub more : List ℕ
  pub after : drop (at + n) new ≡ drop (at + n) old ++ more
  pub no_shorter : length old ≤ length new

-- each image now is an image from before, after a step
abbrev pub Follows : (List ℕ → List ℕ → Type 0) → (List ℕ → Type 0) → (List ℕ → Type 0) → Type 0
Follows step old new = (c : List ℕ) → new c → (d : List ℕ) × old d × step d c

-- what a read gives is the only image; where a disk tells nothing it has none
abbrev pub Only : Option (List ℕ) → (List ℕ → Type 0) → Type 0
Only bytes images = (c : List ℕ) → images c → bytes ≡ Some c

-- no image came
abbrev pub NoMore : (List ℕ → Type 0) → (List ℕ → Type 0) → Type 0
NoMore old new = (c : List ℕ) → new c → old c

-- a read gives what it gave before
abbrev pub Still : Option (List ℕ) → Option (List ℕ) → Type 0
Still old new = WhileTold old new (λ x y. y ≡ x)

-- Time goes on: an image of a moment since t is one from before, or one of now. Where the disk still tells, none of
-- those from before is lost, and where the number of moments stays, the images do.
pub record Elapses (told : Type 0) (before now : ℕ) (past since : ℕ → List ℕ → Type 0) (old new : List ℕ → Type 0) : Type 0 where
  pub later : before ≤ now
  pub adds : (t : ℕ) (c : List ℕ) → t ≤ before → since t c → past t c ⊎ new c
  pub keeps : told → (t : ℕ) (c : List ℕ) → past t c → since t c
  pub rises : now ≡ before → (c : List ℕ) → (new c → old c) × (told → old c → new c)

-- a disk tells its bytes
abbrev pub IsTold : Option (List ℕ) → Type 0
IsTold seen = IsTrue (is_some seen)

-- Every moment of one or more calls that took a disk from old to new: an image since a moment from before them was one
-- before them already, or has P.
pub record Over {D : Type 0} (moment : D → ℕ) (since : D → ℕ → List ℕ → Type 0) (old new : D) (P : List ℕ → Type 0) : Type 0 where
  pub later : moment old ≤ moment new
  pub adds : (t : ℕ) (c : List ℕ) → t ≤ moment old → since new t c → since old t c ⊎ P c
