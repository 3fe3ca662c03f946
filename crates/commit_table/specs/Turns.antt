-- What each call adds to the history, and what it leaves.
use Rattle.std.specs.Prelude.{◌≡◌, ◌≤◌, ◌+◌, ◌-◌, ℕ, Bool, true, false, List, [], ◌∷◌, ◌++◌, drop, sum_by, Option, Some, None, Result, Ok, Err, IfSome, OnOk}
use Rattle.disk_core.specs.declared.trails.Trail.{Trail}
use Rattle.journal_format.specs.Spelling.{Txn}
use Rattle.journal_format.specs.declared.events.Event.{Event}
use Rattle.journal_format.specs.declared.events.Event.TheVariants.{Sub, Settle, Lost}
use Rattle.journal_format.specs.declared.faults.DeviceFault.{DeviceFault}
use Rattle.journal_core.specs.Reading.{padded}
use Rattle.journal_core.specs.Stands.{JournalView}
use Rattle.history_lock.specs.declared.view.View.{View}
use Rattle.history_lock.specs.Plays.{Later, given}
use Rattle.commit_table.specs.declared.begun.Begun.{Begun}
use Rattle.commit_table.specs.declared.desk.Desk.{Desk}
use Rattle.commit_table.specs.declared.answers.Settled.{Settled}
use Rattle.commit_table.specs.declared.answers.Settled.TheVariants.{Stored, Failed}
use Rattle.commit_table.specs.Outcomes.{Outcome, outcome_of, one_ticket, failed_after, Legal}
use Rattle.commit_table.specs.Passes.{begun_in}
use Rattle.commit_table.specs.Tale.{AtDesk, Carries, commit_tale}

-- ---- events

-- the answer tells a receipt
abbrev pub is_stored : Settled → Bool
is_stored (Stored receipt) = true
is_stored Failed = false

-- a commit: the transaction, and what became of it alone
abbrev pub commit_events : ℕ → Txn → Bool → ℕ → ℕ → ℕ → List Event
commit_events caller txn stored moment syncs faults = Sub caller txn ∷ (Settle 1 stored moment syncs faults ∷ [])

-- a read: nothing, or that it failed
abbrev pub read_events : {T E : Type 0} → ℕ → Result T E → ℕ → List Event
read_events caller (Ok x) faults = []
read_events caller (Err e) faults = Lost caller faults ∷ []

-- ---- what a call leaves

-- the outcome of a ticket is the one that was answered
abbrev pub IsAnswered : Settled → Txn → ℕ → Option Outcome → Type 0
IsAnswered (Stored receipt) txn ticket o = (receipt.ticket ≡ ticket) × (o ≡ Some (record { txn = txn; place = Some receipt.at }))
IsAnswered Failed txn ticket o = o ≡ Some (record { txn = txn; place = None })

-- the tickets that were made and those that the pass may still make are no more than the table has
abbrev pub Within : View Begun Event → Type 0
Within w = w.share + sum_by one_ticket w.seen ≤ (begun_in w).tickets

-- With the journal in hand, a caller committed, and gave it back.
pub record Wrote (b : Begun) (caller : ℕ) (txn : Txn) (settled : Settled) (v w : View Begun Event) : Type 0 where
  pub moment_then : ℕ
  pub rise_of_syncs : ℕ
  pub rise_of_faults : ℕ
  pub few_syncs : rise_of_syncs ≤ 3
  pub quick : failed_after false v.seen ≡ false → rise_of_syncs ≤ 2
  pub gave : w ≡ given (commit_events caller txn (is_stored settled) moment_then rise_of_syncs rise_of_faults) v.allowance (v.share - 1) v
  pub legal : Legal w.seen
  pub answered : IsAnswered settled txn (sum_by one_ticket v.seen) (outcome_of b.gate w.seen (sum_by one_ticket v.seen))

-- With the journal in hand, a caller read, and gave it back.
pub record Told (caller : ℕ) (result : Result Unit DeviceFault) (v w : View Begun Event) : Type 0 where
  pub rise_of_faults : ℕ
  pub gave : w ≡ given (read_events caller result rise_of_faults) v.allowance v.share v
  pub legal : Legal w.seen

module _ {D : Type 0} (seen : D → Option (List ℕ)) (images : D → List ℕ → Type 0) (moment : D → ℕ) (since : D → ℕ → List ℕ → Type 0) (trail : D → Option Trail) (faults syncs : D → ℕ) where
  -- whatever the history was, the desk stands for it with these events at its end
  abbrev pub Goes : Desk D → Desk D → List Event → Type 0
  Goes old new events = (b : Begun) (J : List Event) → Legal J → AtDesk seen images moment since trail faults syncs b old J → Legal (J ++ events) × AtDesk seen images moment since trail faults syncs b new (J ++ events)

  -- A caller committed a transaction: its Sub and its Settle stand behind all that had happened.
  pub record DidCommit (b : Begun) (caller : ℕ) (txn : Txn) (settled : Settled) (v w : View Begun Event) : Type 0 where
    pub before : List Event
    pub later : Later (commit_tale seen images moment since trail faults syncs) v before
    pub moment_then : ℕ
    pub rise_of_syncs : ℕ
    pub rise_of_faults : ℕ
    pub adds : w.seen ≡ before ++ commit_events caller txn (is_stored settled) moment_then rise_of_syncs rise_of_faults
    -- two syncs, and one more where a repair was due
    pub few_syncs : rise_of_syncs ≤ 3
    pub quick : failed_after false before ≡ false → rise_of_syncs ≤ 2
    pub legal : Legal w.seen
    pub answered : IsAnswered settled txn (sum_by one_ticket before) (outcome_of b.gate w.seen (sum_by one_ticket before))
    pub share : w.share + 1 ≡ v.share
    pub within : Within w
    pub view : w ≡ record v { share = w.share; turns = v.turns + 1; told = []; seen = w.seen }

  -- A caller looked, as often as need be, and added nothing.
  pub record DidLook (v w : View Begun Event) : Type 0 where
    pub later : Later (commit_tale seen images moment since trail faults syncs) v w.seen
    pub legal : Legal w.seen
    pub within : Within w
    pub view : w ≡ record v { turns = w.turns; told = []; seen = w.seen }

  -- These bytes were read from a place on, of a journal that carried this history.
  pub record IsRead (b : Begun) (J : List Event) (at len : ℕ) (bytes : List ℕ) : Type 0 where
    pub journal : JournalView D
    pub carries : Carries seen images moment since trail faults syncs b journal J
    pub are : IfSome (seen journal.disk) (λ x. bytes ≡ padded len (drop at x))

  -- A caller read, or tried to: it was the journal that carried all that had happened.
  pub record DidRead (b : Begun) (caller at len : ℕ) (result : Result Unit DeviceFault) (bytes : List ℕ) (v w : View Begun Event) : Type 0 where
    pub before : List Event
    pub later : Later (commit_tale seen images moment since trail faults syncs) v before
    pub rise_of_faults : ℕ
    pub adds : w.seen ≡ before ++ read_events caller result rise_of_faults
    pub legal : Legal w.seen
    pub read : OnOk result (IsRead b before at len bytes)
    pub within : Within w
    pub view : w ≡ record v { turns = v.turns + 1; told = []; seen = w.seen }
