-- what stands for a queue, a caller and a row's state in the text of a run
use Rattle.std.specs.Prelude.{ℕ, ◌-◌, ◌<◌, ◌≤◌, List, [], ◌++◌, length, slice_index_or, Option, Some, None, ⊤, codes}
use Rattle.queue_model.specs.declared.rows.RowState.{RowState}
use Rattle.queue_model.specs.declared.rows.RowState.TheVariants.{Available, Locked, Unlocked, Dequeued, Deleted}

-- the name at a place, from 0
abbrev pub name_at : List (List ℕ) → ℕ → List ℕ
name_at names place = slice_index_or names place []

-- callers are counted from 1, and their names stand in that order
abbrev pub caller_name : List (List ℕ) → ℕ → List ℕ
caller_name actors caller = name_at actors (caller - 1)

-- the caller has a name
pub record IsCaller (actors : List (List ℕ)) (caller : ℕ) : Type 0 where
  pub first : 0 < caller
  pub last : caller ≤ length actors

-- the one who holds something, or nobody
abbrev pub IsHolder : List (List ℕ) → Option ℕ → Type 0
IsHolder actors None = ⊤
IsHolder actors (Some caller) = IsCaller actors caller

-- the state of a row, with the caller that it names
abbrev pub state_text : List (List ℕ) → RowState → List ℕ
state_text actors Available = codes "available"
state_text actors (Locked caller) = codes "locked " ++ caller_name actors caller
state_text actors (Unlocked caller) = codes "unlocked " ++ caller_name actors caller
state_text actors Dequeued = codes "dequeued"
state_text actors Deleted = codes "deleted"

-- the caller that the state names has a name
abbrev pub NamesCaller : List (List ℕ) → RowState → Type 0
NamesCaller actors Available = ⊤
NamesCaller actors (Locked caller) = IsCaller actors caller
NamesCaller actors (Unlocked caller) = IsCaller actors caller
NamesCaller actors Dequeued = ⊤
NamesCaller actors Deleted = ⊤
