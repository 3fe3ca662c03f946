-- what a call sees of a disk
use Rattle.std.specs.Prelude.{◌≡◌, ◌⊎◌, ◌↔◌, ◌≤◌, ℕ, ◌+◌, List, Option}
use Rattle.disk_core.specs.declared.trails.Trail.{Trail}
use Rattle.disk_core.specs.Images.{Still, NoMore}
use Rattle.disk_core.specs.Trails.{Extends}

-- The bytes that a read gives, where the disk tells them; what a crash now may leave, and what one since some moment may
-- have left; the number of this moment; what the disk was through; and how often a call failed, and a sync was made.
pub record Medium : Type 1 where
  pub seen : Option (List ℕ)
  pub images : List ℕ → Type 0
  pub moment : ℕ
  pub since : ℕ → List ℕ → Type 0
  pub trail : Option Trail
  pub faults : ℕ
  pub syncs : ℕ

-- a disk, by what contracts see of it
abbrev pub medium : {D : Type 0} → (D → Option (List ℕ)) → (D → List ℕ → Type 0) → (D → ℕ) → (D → ℕ → List ℕ → Type 0) → (D → Option Trail) → (D → ℕ) → (D → ℕ) → D → Medium
medium seen images moment since trail faults syncs disk = record {
  seen = seen disk;
  images = images disk;
  moment = moment disk;
  since = since disk;
  trail = trail disk;
  faults = faults disk;
  syncs = syncs disk;
}

-- it is as it was
pub record IsSame (d d' : Medium) : Type 0 where
  pub seen : d'.seen ≡ d.seen
  pub images : (c : List ℕ) → d'.images c ↔ d.images c
  pub moment : d'.moment ≡ d.moment
  pub since : (t : ℕ) (c : List ℕ) → d'.since t c ↔ d.since t c
  pub trail : d'.trail ≡ d.trail
  pub faults : d'.faults ≡ d.faults
  pub syncs : d'.syncs ≡ d.syncs

-- time went on over calls that made one sync at most
pub record GoesOn (d d' : Medium) : Type 0 where
  pub trail : Extends d.trail d'.trail
  pub later : d.moment ≤ d'.moment
  pub no_fewer : d.syncs ≤ d'.syncs
  pub one_at_most : d'.syncs ≤ d.syncs + 1

-- A read gives what it gave, and no image came. A disk that tells nothing has none.
pub record IsSpared (d d' : Medium) : Type 0 where
  pub still : Still d.seen d'.seen
  pub none : NoMore d.images d'.images

-- it was only looked at: it was spared at every moment
pub record IsLookedAt (d d' : Medium) : Type 0 where
  pub goes_on : GoesOn d d'
  pub spared : IsSpared d d'
  pub adds : (t : ℕ) (c : List ℕ) → t ≤ d.moment → d'.since t c → d.since t c ⊎ d.images c
