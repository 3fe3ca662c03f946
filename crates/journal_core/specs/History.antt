-- What happened to a journal, oldest first, and what of it is stored.
use Rattle.std.specs.Prelude.{◌≡◌, ◌⊎◌, ◌≤◌, ℕ, true, false, List, [], ◌∷◌, ◌++◌, take, drop}
use Rattle.journal_format.specs.Spelling.{Txn}
use Rattle.journal_format.specs.declared.events.Event.{Event}
use Rattle.journal_format.specs.declared.events.Event.TheVariants.{Sub, Settle, Lost}

-- the transactions that have no outcome yet, those that are stored, and the batches that failed since a batch was
-- stored last
pub record Ledger : Type 0 where
  pub waiting : List Txn
  pub stored : List Txn
  pub doubtful : List (List Txn)

-- with one event more: a Settle stores the oldest transactions without an outcome, or fails them
abbrev pub happens : Ledger → Event → Ledger
happens l (Sub caller txn) = record { waiting = l.waiting ++ (txn ∷ []); stored = l.stored; doubtful = l.doubtful }
happens l (Settle n true moment syncs faults) = record { waiting = drop n l.waiting; stored = l.stored ++ take n l.waiting; doubtful = [] }
happens l (Settle n false moment syncs faults) = record { waiting = drop n l.waiting; stored = l.stored; doubtful = take n l.waiting ∷ l.doubtful }
happens l (Lost caller faults) = l

-- with these events more
abbrev pub from : Ledger → List Event → Ledger
from l [] = l
from l (e ∷ es) = from (happens l e) es

-- before anything happened
abbrev pub empty : Ledger
empty = record { waiting = []; stored = []; doubtful = [] }

-- after this history
abbrev pub after : List Event → Ledger
after es = from empty es

-- X are the transactions that the first Settle of these events settles
abbrev pub IsFirst : Ledger → List Event → List Txn → Type 0
IsFirst l [] X = ⊥
IsFirst l (Sub caller txn ∷ es) X = IsFirst (happens l (Sub caller txn)) es X
IsFirst l (Settle n stored moment syncs faults ∷ es) X = X ≡ take n l.waiting
IsFirst l (Lost caller faults ∷ es) X = IsFirst l es X

-- a Settle at or before this moment
abbrev pub IsBy : ℕ → Event → Type 0
IsBy t (Sub caller txn) = ⊥
IsBy t (Settle n stored moment syncs faults) = moment ≤ t
IsBy t (Lost caller faults) = ⊥

-- if it is a Settle, its moment is from t to u
abbrev pub IsTimed : ℕ → ℕ → Event → Type 0
IsTimed t u (Sub caller txn) = Unit {0}
IsTimed t u (Settle n stored moment syncs faults) = (t ≤ moment) × (moment ≤ u)
IsTimed t u (Lost caller faults) = Unit {0}

-- it settles nothing
abbrev pub IsQuiet : Event → Type 0
IsQuiet (Sub caller txn) = Unit {0}
IsQuiet (Settle n stored moment syncs faults) = ⊥
IsQuiet (Lost caller faults) = Unit {0}

-- each event has P
abbrev pub Each : (Event → Type 0) → List Event → Type 0
Each P [] = Unit {0}
Each P (e ∷ es) = P e × Each P es

-- X is one of these batches
abbrev pub IsOneOf : List (List Txn) → List Txn → Type 0
IsOneOf [] X = ⊥
IsOneOf (B ∷ Bs) X = (X ≡ B) ⊎ IsOneOf Bs X
