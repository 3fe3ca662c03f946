-- What contracts see of a pass and of a table.
use Rattle.std.specs.Prelude.{ℕ, List, [], ◌∷◌, Option, Some, None}
use Rattle.disk_core.specs.declared.trails.Trail.{Trail}
use Rattle.journal_format.specs.declared.events.Event.{Event}
use Rattle.journal_core.specs.Stands.{JournalView}
use Rattle.history_lock.specs.declared.view.View.{View}
use Rattle.history_lock.specs.Views.{spent}
use Rattle.commit_table.specs.declared.begun.Begun.{Begun}
use Rattle.commit_table.specs.Commits.{commits_in}

-- the view of a badge that has one
abbrev pub view_in : List (View Begun Event) → View Begun Event
view_in [] = spent
view_in (v ∷ vs) = v

-- the callers behind a pass's own
abbrev pub rest_of : List ℕ → List ℕ
rest_of [] = []
rest_of (k ∷ ks) = ks

-- of a table of which nothing is known
abbrev pub nothing_begun : Begun
nothing_begun = record { bytes = None; commits = []; moment = 0; trail = None; gate = 0; syncs = 0; faults = 0; callers = 0; tickets = 0; bytes_each = 0 }

-- what the table began with, as the pass knows
abbrev pub begun_or : Option Begun → Begun
begun_or None = nothing_begun
begun_or (Some b) = b

abbrev pub begun_in : View Begun Event → Begun
begun_in v = begun_or v.opening

-- the view when so much was seen
abbrev pub seen_by : View Begun Event → List Event → View Begun Event
seen_by v seen = record v { seen = seen }

-- ---- making

-- what a table begins with over this journal
module _ {D : Type 0} (seen : D → Option (List ℕ)) (moment : D → ℕ) (trail : D → Option Trail) (faults syncs : D → ℕ) where
  abbrev pub begun_of : JournalView D → ℕ → ℕ → ℕ → Begun
  begun_of j callers tickets bytes_each = record {
    bytes = seen j.disk;
    commits = commits_in (seen j.disk);
    moment = moment j.disk;
    trail = trail j.disk;
    gate = j.gate;
    syncs = syncs j.disk;
    faults = faults j.disk;
    callers = callers;
    tickets = tickets;
    bytes_each = bytes_each;
  }
