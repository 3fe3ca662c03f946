-- What each image of a session stands for.
use Rattle.std.specs.Prelude.{◌≡◌, ◌⊎◌, ◌≤◌, ℕ, Bool, List, [], ◌∷◌, ◌++◌}
use Rattle.journal_format.specs.Spelling.{Txn}
use Rattle.journal_format.specs.declared.events.Event.{Event}
use Rattle.journal_format.specs.declared.events.Event.TheVariants.{Settle}
use Rattle.journal_core.specs.declared.journal.Trust.{Trust}
use Rattle.journal_core.specs.declared.journal.Trust.TheVariants.{Gate}
use Rattle.journal_core.specs.Stands.{Stands}
use Rattle.journal_core.specs.History.{Ledger, after, IsFirst, IsBy, IsTimed, IsOneOf, Each}

-- what may be there beside what is stored: nothing; or the transactions of the first Settle that follows; or those of a
-- Settle that failed since a batch was stored last
abbrev pub IsMore : Ledger → List Event → List Txn → Type 0
IsMore l rest X = (X ≡ []) ⊎ (IsFirst l rest X ⊎ IsOneOf l.doubtful X)

-- A byte list stands for the commits C, then what a front of the history has stored, then maybe more. The front has every
-- Settle at or before moment t. `stands` relates byte lists to commits.
pub record Fits (stands : List ℕ → List Txn → Type 0) (C : List Txn) (J : List Event) (t : ℕ) (c : List ℕ) : Type 0 where
  pub front : List Event
  pub rest : List Event
  pub is : J ≡ front ++ rest
  pub late : Each (λ e. IsBy t e → ⊥) rest
  pub more : List Txn
  pub why : IsMore (after front) rest more
  pub commits : stands c (C ++ ((after front).stored ++ more))

-- What is kept of a history by a disk, of a session that began at moment t0 with the commits C: each Settle has a moment
-- since then, and each image of each moment since then fits.
pub record Kept {D : Type 0} (moment : D → ℕ) (since : D → ℕ → List ℕ → Type 0) (stands : List ℕ → List Txn → Type 0) (t0 : ℕ) (d : D) (C : List Txn) (J : List Event) : Type 0 where
  pub timed : Each (IsTimed t0 (moment d)) J
  pub each : (t : ℕ) (c : List ℕ) → t0 ≤ t → t ≤ moment d → since d t c → Fits stands C J t c

-- What a journal is between two calls of a session: its images stand for what is stored, or also for a batch that failed
-- since a batch was stored last, where that one had come to its gate write.
pub record Agrees (images : List ℕ → Type 0) (gate : ℕ) (trust : Trust) (C : List Txn) (l : Ledger) : Type 0 where
  pub failed : List Txn
  pub whole : Stands images gate trust (C ++ l.stored) failed
  pub doubt : trust ≡ Gate → IsOneOf l.doubtful failed

-- what one commit adds to the history
abbrev pub settled : ℕ → Bool → ℕ → ℕ → ℕ → List Event
settled count stored moment syncs faults = Settle count stored moment syncs faults ∷ []
