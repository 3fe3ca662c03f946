-- What became of each transaction of a history, and where it stands (docs/JOURNAL.md).
use Rattle.std.specs.Prelude.{◌≡◌, ◌<◌, ◌≤◌, ℕ, ◌+◌, ◌-◌, ◌==◌, min, Bool, true, false, List, [], ◌∷◌, ◌++◌, length, take, drop, filter, slice_get, Option, Some, None}
use Rattle.outside_io.specs.Counts.{last_count}
use Rattle.journal_format.specs.Spelling.{Txn, txn_bytes, batch_bytes}
use Rattle.journal_format.specs.declared.events.Event.{Event}
use Rattle.journal_format.specs.declared.events.Event.TheVariants.{Sub, Settle, Lost}

-- ---- outcomes and places

-- a transaction with an outcome; where it was stored, the place from which on it stands
pub record Outcome : Type 0 where
  pub txn : Txn
  pub place : Option ℕ

-- where the gate stands behind the last batch, the transactions that have no outcome yet, and those that have one, each
-- at the index that is its ticket
pub record Book : Type 0 where
  pub gate : ℕ
  pub waiting : List Txn
  pub outcomes : List Outcome

-- a place in 64 bits, which stays at the greatest
abbrev pub capped : ℕ → ℕ
capped n = min n last_count

-- the transactions of a batch that was stored: the first stands at this place, each next one behind it
abbrev pub stored_from : ℕ → List Txn → List Outcome
stored_from at [] = []
stored_from at (t ∷ ts) = record { txn = t; place = Some at } ∷ stored_from (capped (at + length (txn_bytes t))) ts

-- those of a batch that failed
abbrev pub failed_all : List Txn → List Outcome
failed_all [] = []
failed_all (t ∷ ts) = record { txn = t; place = None } ∷ failed_all ts

-- the gate behind a batch that the gate at this place opens; without a batch it stays
abbrev pub gate_behind : ℕ → List Txn → ℕ
gate_behind gate [] = gate
gate_behind gate (t ∷ ts) = capped (gate + (length (batch_bytes (t ∷ ts)) + 1))

-- with one event more: the first transaction of a batch that is stored stands 13 bytes after the gate that it opens; a
-- batch that fails leaves the gate's place
abbrev pub noted : Book → Event → Book
noted b (Sub caller txn) = record { gate = b.gate; waiting = b.waiting ++ (txn ∷ []); outcomes = b.outcomes }
noted b (Settle n true moment syncs faults) = record {
  gate = gate_behind b.gate (take n b.waiting);
  waiting = drop n b.waiting;
  outcomes = b.outcomes ++ stored_from (capped (b.gate + 13)) (take n b.waiting);
}
noted b (Settle n false moment syncs faults) = record {
  gate = b.gate;
  waiting = drop n b.waiting;
  outcomes = b.outcomes ++ failed_all (take n b.waiting);
}
noted b (Lost caller faults) = b

-- with these events more
abbrev pub noted_all : Book → List Event → Book
noted_all b [] = b
noted_all b (e ∷ es) = noted_all (noted b e) es

-- after a history that began with the gate at this place
abbrev pub book : ℕ → List Event → Book
book gate es = noted_all (record { gate = gate; waiting = []; outcomes = [] }) es

-- what became of a ticket; None while it has no outcome
abbrev pub outcome_of : ℕ → List Event → ℕ → Option Outcome
outcome_of gate es ticket = slice_get (book gate es).outcomes ticket

-- ---- counts

-- one for a transaction that was submitted
abbrev pub one_ticket : Event → ℕ
one_ticket (Sub caller txn) = 1
one_ticket (Settle n stored moment syncs faults) = 0
one_ticket (Lost caller faults) = 0

-- by how much the disk's count of syncs rose
abbrev pub syncs_of : Event → ℕ
syncs_of (Sub caller txn) = 0
syncs_of (Settle n stored moment syncs faults) = syncs
syncs_of (Lost caller faults) = 0

-- by how much its count of faults rose
abbrev pub faults_of : Event → ℕ
faults_of (Sub caller txn) = 0
faults_of (Settle n stored moment syncs faults) = faults
faults_of (Lost caller faults) = faults

-- ---- what may happen

-- the event is one of this caller; a Settle is nobody's
abbrev pub is_by : ℕ → Event → Bool
is_by k (Sub caller txn) = caller == k
is_by k (Settle n stored moment syncs faults) = false
is_by k (Lost caller faults) = caller == k

-- a caller's own events
abbrev pub own : ℕ → List Event → List Event
own k es = filter (is_by k) es

-- whether the last Settle failed, where `failed` says it of the events before
abbrev pub failed_after : Bool → List Event → Bool
failed_after failed [] = failed
failed_after failed (Sub caller txn ∷ es) = failed_after failed es
failed_after failed (Settle n true moment syncs faults ∷ es) = failed_after false es
failed_after failed (Settle n false moment syncs faults ∷ es) = failed_after true es
failed_after failed (Lost caller faults ∷ es) = failed_after failed es

-- the last batch failed
abbrev pub HasFailed : List Event → Type 0
HasFailed es = failed_after false es ≡ true

-- What may happen after events that left so many transactions without an outcome, the last batch failed or not: a Settle
-- settles no more than wait; one that settles none follows a failure; whatever fails has a fault of the disk.
abbrev pub LegalFrom : ℕ → Bool → List Event → Type 0
LegalFrom waiting failed [] = Unit {0}
LegalFrom waiting failed (Sub caller txn ∷ es) = LegalFrom (waiting + 1) failed es
LegalFrom waiting failed (Settle n true moment syncs faults ∷ es) = (n ≤ waiting) × (n ≡ 0 → failed ≡ true) × LegalFrom (waiting - n) false es
LegalFrom waiting failed (Settle n false moment syncs faults ∷ es) = (n ≤ waiting) × (n ≡ 0 → failed ≡ true) × (0 < faults) × LegalFrom (waiting - n) true es
LegalFrom waiting failed (Lost caller faults ∷ es) = (0 < faults) × LegalFrom waiting failed es

-- a history that may be
abbrev pub Legal : List Event → Type 0
Legal es = LegalFrom 0 false es
