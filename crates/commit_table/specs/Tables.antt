-- Which pass is of which table, and what splits and joins leave.
use Rattle.std.specs.Prelude.{◌≡◌, ℕ, ◌+◌, ◌-◌, List, [], ◌∷◌}
use Rattle.std.specs.List.{flat_map}
use Rattle.std.specs.Prelude.{◌++◌, length, false, Option}
use Rattle.disk_core.specs.declared.trails.Trail.{Trail}
use Rattle.journal_format.specs.Filled.{Filled}
use Rattle.journal_format.specs.Spelling.{item_bytes}
use Rattle.journal_format.specs.declared.events.Event.{Event}
use Rattle.history_lock.specs.declared.view.View.{View}
use Rattle.history_lock.specs.Plays.{Later}
use Rattle.commit_table.specs.declared.answers.Committed.{Committed}
use Rattle.commit_table.specs.declared.answers.Committed.TheVariants.{Done, TicketsSpent}
use Rattle.commit_table.specs.declared.begun.Begun.{Begun}
use Rattle.commit_table.specs.declared.pass.CommitPass.{CommitPass}
use Rattle.commit_table.specs.declared.table.CommitTable.{CommitTable}
use Rattle.commit_table.specs.Outcomes.{Legal}
use Rattle.commit_table.specs.Tale.{commit_tale}
use Rattle.commit_table.specs.Turns.{Within, DidCommit}
use Rattle.commit_table.specs.Passes.{view_in, begun_in}

-- what the pass knows
abbrev pub view : CommitPass → View Begun Event
view p = view_in p.badge.views

-- what its table began with
abbrev pub begun : CommitPass → Begun
begun p = begun_in (view p)

-- the pass is one of this table
abbrev pub IsPassOf : {D R : Type 0} → CommitTable D R → CommitPass → Type 0
IsPassOf table p = p.badge.table_id ≡ table.lock.table.shared.table_id

-- the same pass later: what only splits and joins change
pub record Same (old new : CommitPass) : Type 0 where
  pub table : new.badge.table_id ≡ old.badge.table_id
  pub caller : new.caller ≡ old.caller
  pub begun : begun new ≡ begun old
  pub callers : (view new).callers ≡ (view old).callers
  pub made : (view new).made ≡ (view old).made

module _ {D : Type 0} (seen : D → Option (List ℕ)) (images : D → List ℕ → Type 0) (moment : D → ℕ) (since : D → ℕ → List ℕ → Type 0) (trail : D → Option Trail) (faults syncs : D → ℕ) where
  -- what `commit` answers: the transaction was committed, and comes back without items and with all of its room; or the
  -- share was 0, and nothing happened
  abbrev pub Commits : Filled → Committed → CommitPass → CommitPass → Type 0
  Commits txn (Done settled left) old new =
      DidCommit seen images moment since trail faults syncs (begun old) old.caller txn.items settled (view old) (view new)
      × (left.items ≡ []) × (left.room ≡ txn.room + length (flat_map item_bytes txn.items))
  Commits txn (TicketsSpent left) old new = (old.share ≡ 0) × (left ≡ txn) × (new ≡ old)

  -- The boss, whose view was v, made a pass for a new caller, to which so many of its tickets went.
  pub record DidSplit (v w u : View Begun Event) (tickets : ℕ) : Type 0 where
    pub later : Later (commit_tale seen images moment since trail faults syncs) v w.seen
    pub legal : Legal w.seen
    pub boss : w ≡ record v { made = v.made + 1; consumers = []; share = v.share - tickets; told = []; seen = w.seen }
    pub new : u ≡ record { opening = v.opening; callers = v.made ∷ []; made = 0; consumers = []; allowance = 0; share = tickets; turns = 0; holding = false; told = []; seen = w.seen }

  -- A pass, whose view was v, speaks for the callers of another too, whose view was w. It has seen what both had seen, has
  -- their events and no more of them, and their tickets.
  pub record DidJoin (v w u : View Begun Event) : Type 0 where
    pub mine : Later (commit_tale seen images moment since trail faults syncs) v u.seen
    pub theirs : Later (commit_tale seen images moment since trail faults syncs) w u.seen
    pub legal : Legal u.seen
    pub callers : u.callers ≡ v.callers ++ w.callers
    pub share : u.share ≡ v.share + w.share
    pub within : Within u
    pub made : u.made ≡ v.made
    pub turns : u.turns ≡ v.turns
    pub opening : u.opening ≡ v.opening
