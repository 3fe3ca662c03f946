use Rattle.std.specs.Prelude.{ℕ, ◌<◌, ◌≤◌, ◌==◌, ◌⊎◌, List, length, Option, Some, None, if◌then◌else◌}
use Rattle.outside_io.specs.Counts.{last_count, IsListed}

-- what contracts see of a MemorySource: the bytes that it has left, the number of its next call, the
-- numbers of the calls that fail, and how often it has failed
pub record SourceView : Type 0 where
  pub left : List ℕ
  pub call : ℕ
  pub failing : List ℕ
  pub faults : ℕ

-- what contracts see of a MemorySink: the bytes that were written, how many it has room for in all, the
-- number of its next call, the numbers of the calls that fail, and how often it has failed
pub record SinkView : Type 0 where
  pub written : List ℕ
  pub room : ℕ
  pub call : ℕ
  pub failing : List ℕ
  pub faults : ℕ

-- the bytes that a source has left, as far as it tells them
abbrev pub left_of : SourceView → Option (List ℕ)
left_of s = if s.faults == last_count then None else Some s.left

-- the next read fails
abbrev pub FailsNext : SourceView → Type 0
FailsNext s = (s.faults < last_count) × IsListed s.failing s.call

-- the bytes that were written to a sink, as far as it tells them
abbrev pub written_of : SinkView → Option (List ℕ)
written_of s = if s.faults == last_count then None else Some s.written

-- the next write fails: the list has its number, or no byte more fits
abbrev pub RefusesNext : SinkView → Type 0
RefusesNext s = (s.faults < last_count) × (IsListed s.failing s.call ⊎ (s.room ≤ length s.written))
