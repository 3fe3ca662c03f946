-- What the journal under the lock is to the history of commits.
use Rattle.std.specs.Prelude.{◌≡◌, ◌≤◌, ◌+◌, ◌↔◌, ℕ, false, List, [], length, take, Option, IfSome, sum_by}
use Rattle.std.specs.List.{AllByRecursion}
use Rattle.outside_io.specs.Told.{WhileTold}
use Rattle.disk_core.specs.declared.trails.Trail.{Trail}
use Rattle.disk_core.specs.Trails.{Extends}
use Rattle.journal_format.specs.Spelling.{txn_bytes}
use Rattle.journal_format.specs.Journal.{IsJournal}
use Rattle.journal_format.specs.declared.events.Event.{Event}
use Rattle.journal_core.specs.declared.journal.Trust.TheVariants.{Clean}
use Rattle.journal_core.specs.Stands.{JournalView, Gives}
use Rattle.journal_core.specs.History.{after}
use Rattle.journal_core.specs.Kept.{Agrees, Kept}
use Rattle.history_lock.specs.Tale.{Tale}
use Rattle.commit_table.specs.declared.begun.Begun.{Begun}
use Rattle.commit_table.specs.declared.desk.Desk.{Desk}
use Rattle.commit_table.specs.Outcomes.{Outcome, book, is_by, one_ticket, syncs_of, faults_of, failed_after, Legal}

-- where the transaction was stored, a read gives its bytes from its place on, and they stand before the gate
abbrev pub IsGiven : ℕ → List ℕ → Outcome → Type 0
IsGiven gate bytes o = IfSome o.place (λ at. (at + length (txn_bytes o.txn) ≤ gate) × Gives at (txn_bytes o.txn) bytes)

-- what a read gave before the gate when the session began, it still gives; and the gate hasn't come back
abbrev pub IsFront : ℕ → ℕ → List ℕ → List ℕ → Type 0
IsFront began gate first now = (began ≤ gate) × (take began now ≡ take began first)

module _ {D : Type 0} (seen : D → Option (List ℕ)) (images : D → List ℕ → Type 0) (moment : D → ℕ) (since : D → ℕ → List ℕ → Type 0) (trail : D → Option Trail) (faults syncs : D → ℕ) where
  -- A journal between two calls, of a session that so began, after this history.
  pub record Carries (b : Begun) (j : JournalView D) (J : List Event) : Type 0 where
    -- every image at every moment since the session began is a journal of a front of the commits that has all that
    -- were settled
    pub agrees : Agrees (images j.disk) j.gate j.trust b.commits (after J)
    pub kept : Kept moment since IsJournal b.moment j.disk b.commits J
    pub began : b.moment ≤ moment j.disk
    pub goes_on : Extends b.trail (trail j.disk)
    -- each transaction has its outcome
    pub settled : (after J).waiting ≡ []
    -- it is unclean exactly where the last batch failed
    pub clean : (j.trust ≡ Clean) ↔ (failed_after false J ≡ false)
    -- the gate stands behind the last batch that was stored, and a read gives each that was stored at its place, and what
    -- it gave before the first of them
    pub gate : j.gate ≡ (book b.gate J).gate
    pub front : WhileTold b.bytes (seen j.disk) (IsFront b.gate j.gate)
    pub given : IfSome (seen j.disk) (λ bytes. AllByRecursion (IsGiven j.gate bytes) (book b.gate J).outcomes)
    -- the disk's counts have risen as the history tells
    pub syncs_are : syncs j.disk ≡ b.syncs + sum_by syncs_of J
    pub faults_are : faults j.disk ≡ b.faults + sum_by faults_of J

  -- the journal on its desk: there is room for a transaction, and the tickets are counted
  pub record AtDesk (b : Begun) (desk : Desk D) (J : List Event) : Type 0 where
    pub carries : Carries b desk.journal J
    pub room : b.bytes_each + 13 ≤ desk.scratch.room
    pub count : desk.count ≡ sum_by one_ticket J
    pub few : b.tickets ≤ 4294967295

  -- what a desk is to a history
  abbrev pub commit_tale : Tale (Desk D) Begun Event
  commit_tale = record {
    by = is_by;
    legal = λ b J. Legal J;
    stands = λ b desk J. AtDesk b desk J;
    allowed = λ b J. 0;
    drawn = λ b J. sum_by one_ticket J;
    most_allowed = λ b. 0;
    most_drawn = λ b. b.tickets;
  }
