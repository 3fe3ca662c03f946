-- what a call sees of the world outside
use Rattle.std.specs.Prelude.{◌≡◌, ℕ, Option, List}
use Rattle.target_core.specs.Seats.{Seat}

-- What is left of the input, and how often its source failed; what was written, and how often the sink failed; and the
-- targets that were handed in, or came back. A source or a sink may keep to itself what is left or was written.
pub record World : Type 0 where
  pub left : Option (List ℕ)
  pub read_faults : ℕ
  pub written : Option (List ℕ)
  pub write_faults : ℕ
  pub seats : List Seat

-- the world of a source, a sink and targets, by what contracts see of them
abbrev pub world : {S K : Type 0} → (S → Option (List ℕ)) → (S → ℕ) → (K → Option (List ℕ)) → (K → ℕ) → S → K → List Seat → World
world left read_faults written write_faults source sink seats = record {
  left = left source;
  read_faults = read_faults source;
  written = written sink;
  write_faults = write_faults sink;
  seats = seats;
}

-- no target was served: all came back as they were
abbrev pub Unserved : World → World → Type 0
Unserved w w' = w'.seats ≡ w.seats
