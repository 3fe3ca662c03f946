-- What a disk in memory holds, and which of its calls fail.
use Rattle.std.specs.Prelude.{◌⊎◌, ◌<◌, ◌≤◌, ℕ, ◌+◌, ◌^◌, List, length, take, drop, map, reverse, Option, Some, None, if◌then◌else◌, Bool, IsTrue, Contains, nat_lt, ◌&&◌}
use Rattle.outside_io.specs.Counts.{last_count}
use Rattle.disk_core.specs.declared.memory.Move.{Move}
use Rattle.disk_core.specs.declared.memory.Move.TheVariants as move
use Rattle.disk_core.specs.declared.trails.Step.{Step}
use Rattle.disk_core.specs.declared.trails.Step.TheVariants.{Write, Sync}
use Rattle.disk_core.specs.declared.trails.Trail.{Trail}
use Rattle.disk_core.specs.Trails.{content, IsImage, IsSince}

-- What contracts see of a MemoryDisk: what it held at first and each step since, the newest first; the number of its
-- next call, from which number on calls fail, and the numbers of others that do; how many bytes were written in all,
-- and how many may be; and its counts.
pub record DiskView : Type 0 where
  pub first : List ℕ
  pub steps : List Step
  pub call : ℕ
  pub calls : ℕ
  pub written : ℕ
  pub room : ℕ
  pub failing : List ℕ
  pub faults : ℕ
  pub syncs : ℕ

-- the call of this number fails: the list has it, or it is past the last one that doesn't
abbrev pub IsDue : List ℕ → ℕ → ℕ → Type 0
IsDue failing calls call = Contains failing call ⊎ (calls ≤ call)

-- the next call fails for its number
abbrev pub FailsNext : DiskView → Type 0
FailsNext d = (d.faults < last_count) × IsDue d.failing d.calls d.call

-- the next call fails if it is a write of n bytes: for its number, or since so many don't fit
abbrev pub RefusesNext : DiskView → ℕ → Type 0
RefusesNext d n = (d.faults < last_count) × ((d.room < d.written + n) ⊎ IsDue d.failing d.calls d.call)

-- it tells what it holds: its count of faults isn't at its last value (and it has as many bytes as any disk may have)
abbrev pub tells : DiskView → Bool
tells d = nat_lt d.faults last_count && nat_lt (length (content d.first d.steps)) (2 ^ 63)

abbrev pub seen_of : DiskView → Option (List ℕ)
seen_of d = if tells d then Some (content d.first d.steps) else None

abbrev pub images_of : DiskView → List ℕ → Type 0
images_of d c = IsTrue (tells d) × IsImage d.first d.steps c

abbrev pub moment_of : DiskView → ℕ
moment_of d = length d.steps

abbrev pub since_of : DiskView → ℕ → List ℕ → Type 0
since_of d t c = IsTrue (tells d) × IsSince d.first t d.steps c

abbrev pub trail_of : DiskView → Option Trail
trail_of d = if tells d then Some (record { first = d.first; steps = d.steps }) else None

-- a move as a step, with the bytes that it has in the list of all that were written
abbrev pub step_of : List ℕ → Move → Step
step_of all (move.Write at from len) = Write at (take len (drop from all))
step_of all move.Sync = Sync

-- the moves, oldest first, as steps, the newest first
abbrev pub steps_of : List ℕ → List Move → List Step
steps_of all moves = reverse (map (step_of all) moves)

-- a move's bytes stand in what was written
abbrev pub IsWithin : ℕ → Move → Type 0
IsWithin size (move.Write at from len) = from + len ≤ size
IsWithin size move.Sync = Unit {0}

-- a move is a write
abbrev pub IsWrite : Move → Type 0
IsWrite (move.Write at from len) = Unit {0}
IsWrite move.Sync = ⊥
