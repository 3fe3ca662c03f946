-- the vectors that keep a table of words
use Rattle.std.specs.Prelude.{◌≡◌, ℕ, ◌<◌, Option, None, List, length, slice_index, slice_index_or}
use Rattle.queue_model.specs.declared.queues.Queue.{Queue}
use Rattle.queue_model.specs.declared.steps.Step.{Step}
use Rattle.queue_model.specs.declared.steps.Step.TheVariants.{Draw, Link}
use Rattle.link_core.specs.declared.store.Store.{Store}
use Rattle.link_core.specs.Stands.{Stands}
use Rattle.link_core.specs.Table.{Table}

-- What contracts see of the vectors: a list has the drawer of each row, and two what each caller has reserved.
pub record Vectors : Type 0 where
  pub rows : ℕ
  pub lists : ℕ
  pub consumers : ℕ
  pub callers : ℕ
  pub words : List ℕ
  pub drawers : List (Option ℕ)
  pub entries : List ℕ
  pub bytes : List ℕ

-- the drawer that a list has of each row
abbrev pub drawers_of : List (Option ℕ) → ℕ → Option ℕ
drawers_of drawers r = slice_index_or drawers r None

-- the table that the vectors keep
abbrev pub table_of : Vectors → Table
table_of v = record {
  rows = v.rows;
  lists = v.lists;
  consumers = v.consumers;
  callers = v.callers;
  words = v.words;
  drawer = drawers_of v.drawers;
  reserved = λ h. record { holder = h; entries = slice_index v.entries h; bytes = slice_index v.bytes h };
}

-- the lists that the vectors of a store have
abbrev pub vectors_in : Store → Vectors
vectors_in s = record { rows = s.rows; lists = s.lists; consumers = s.consumers; callers = s.callers; words = s.words.items; drawers = s.drawers.items; entries = s.entries.items; bytes = s.bytes.items }

-- the table that a store keeps
abbrev pub table_in : Store → Table
table_in s = table_of (vectors_in s)

-- the vectors have a place for each row and for each caller
pub record IsLong (s : Store) : Type 0 where
  pub drawers : length s.drawers.items ≡ s.rows
  pub entries : length s.entries.items ≡ s.callers
  pub bytes : length s.bytes.items ≡ s.callers

-- the words stand for the state of some queue
pub record IsKept (s : Store) : Type 0 where
  pub long : IsLong s
  pub queue : Queue
  pub stands : Stands (table_in s) queue

-- the place of the drawer that a step sets, if any, is among so many; the next row to be drawn is given
abbrev pub SetsBelow : ℕ → ℕ → Step → Type 0
SetsBelow n next Draw = next < n
SetsBelow n next (Link r node) = r < n
SetsBelow n next step = Unit {0}
