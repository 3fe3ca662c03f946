-- What reading a journal says.
use Rattle.std.specs.Prelude.{◌≡◌, ℕ, ◌-◌, List, ◌++◌, length, take, replicate, Option}
use Rattle.disk_core.specs.declared.trails.Trail.{Trail}
use Rattle.disk_core.specs.Images.{Still, NoMore, Over}
use Rattle.disk_core.specs.Trails.{Extends}

-- the first n bytes, and zeros for those that aren't there
abbrev pub padded : ℕ → List ℕ → List ℕ
padded n bytes = take n bytes ++ replicate (n - length bytes) 0

-- A disk over calls that only read: a read gives what it gave, no image came at any moment, and no sync was made.
pub record OnlyReads {D : Type 0} (seen : D → Option (List ℕ)) (images : D → List ℕ → Type 0) (moment : D → ℕ) (since : D → ℕ → List ℕ → Type 0) (trail : D → Option Trail) (syncs : D → ℕ) (old new : D) : Type 0 where
  pub still : Still (seen old) (seen new)
  pub none : NoMore (images old) (images new)
  pub moments : Over moment since old new (images old)
  pub goes_on : Extends (trail old) (trail new)
  pub same_syncs : syncs new ≡ syncs old
