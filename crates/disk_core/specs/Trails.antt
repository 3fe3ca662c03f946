-- What a disk was through, and what a crash may leave after it.
use Rattle.std.specs.Prelude.{◌≡◌, ◌⊎◌, ◌≤◌, ℕ, ◌+◌, ◌-◌, List, [], ◌∷◌, ◌++◌, length, take, drop, Option, Some, None}
use Rattle.outside_io.specs.Told.{WhileTold}
use Rattle.disk_core.specs.declared.trails.Step.{Step}
use Rattle.disk_core.specs.declared.trails.Step.TheVariants.{Write, Sync}
use Rattle.disk_core.specs.declared.trails.Trail.{Trail}
use Rattle.disk_core.specs.Images.{Torn}

-- the old bytes with these at this place
abbrev pub write : ℕ → List ℕ → List ℕ → List ℕ
write at bytes old = take at old ++ (bytes ++ drop (at + length bytes) old)

-- what a read gives after these steps, the newest first
abbrev pub content : List ℕ → List Step → List ℕ
content first [] = first
content first (Write at bytes ∷ older) = write at bytes (content first older)
content first (Sync ∷ older) = content first older

-- what a crash may leave after them: each write since the last sync may be there in part, or torn, or not at all
abbrev pub IsImage : List ℕ → List Step → List ℕ → Type 0
IsImage first [] c = c ≡ first
IsImage first (Write at bytes ∷ older) c = (c ≡ write at bytes (content first older)) ⊎ ((d : List ℕ) × IsImage first older d × Torn at (length bytes) d c)
IsImage first (Sync ∷ older) c = c ≡ content first older

-- what a crash after the first t of them or after more may have left
abbrev pub IsSince : List ℕ → ℕ → List Step → List ℕ → Type 0
IsSince first t [] c = (t ≤ 0) × IsImage first [] c
IsSince first t (s ∷ older) c = ((t ≤ length (s ∷ older)) × IsImage first (s ∷ older) c) ⊎ IsSince first t older c

-- the first t of these steps, the newest of them first
abbrev pub up_to : ℕ → List Step → List Step
up_to t steps = drop (length steps - t) steps

-- one trail goes on from another
pub record GoesOn (old new : Trail) : Type 0 where
  pub first : new.first ≡ old.first
  pub more : List Step
  pub steps : new.steps ≡ more ++ old.steps

-- what was told is told no more, or goes on
abbrev pub Extends : Option Trail → Option Trail → Type 0
Extends old new = WhileTold old new GoesOn

-- what a crash since moment t may have left, by the trail
abbrev pub SinceIn : Option Trail → ℕ → List ℕ → Type 0
SinceIn None t c = ⊥
SinceIn (Some trail) t c = IsSince trail.first t trail.steps c
