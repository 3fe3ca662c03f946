-- how queues of all kinds are made, and their passes split off, joined and given back
use Rattle.std.specs.Prelude.{◌≡◌, ℕ, ◌+◌, ◌-◌, ◌<◌, ◌≤◌, List, [], ◌∷◌, ◌++◌, length}
use mathlib.Core.List.{IsPrefix, Mem}
use Rattle.queue_model.specs.declared.rows.Slip.{Slip}
use Rattle.queue_model.specs.History.{Legal, own}
use Rattle.queue_model.specs.Sound.{IsOpening}
use Rattle.queue_model.specs.Table.{FitsQueue, most_entries}
use Rattle.acts_core.specs.Asked.{KeyFits, most_callers}
use Rattle.acts_core.specs.Load.{Load}
use Rattle.acts_core.specs.Rest.{AreRests, Left}
use Rattle.acts_core.specs.Sight as kinds
use Rattle.acts_core.specs.Sight.{Kind, Build, Sight, known}
use Rattle.any_queue.specs.Kinds.{built}
use Rattle.defs_read.specs.declared.defs.QueueKind.{QueueKind}
use Rattle.defs_read.specs.declared.defs.QueueKind.TheVariants.{Standard, Priority, Sorted, LastValue}
use Rattle.entry_table.specs.Plays.{not_in}
use Rattle.entry_table.specs.Resting.{Settled}
use Rattle.entry_table.specs.Rule.{below}
use Rattle.entry_table.specs.Starting.{AreStarted}
use Rattle.lastval_core.specs.Fronts.{KeysApart}

-- what kind of queue a definition makes
abbrev pub kind_of : QueueKind → Kind
kind_of Standard = kinds.Listed
kind_of (Priority n) = kinds.Listed
kind_of (Sorted key) = kinds.Sorted
kind_of (LastValue key) = kinds.LastValue

-- the queue is built of lists, 1 to 10 of them
abbrev pub IsOfLists : QueueKind → Type 0
IsOfLists Standard = Unit {0}
IsOfLists (Priority n) = (1 ≤ n) × (n ≤ 10)
IsOfLists (Sorted key) = ⊥
IsOfLists (LastValue key) = ⊥

-- Starts

module _ {C : Type 0} (load : C → Load) (kind : Kind) (lists consumers : ℕ) where
  -- a queue of this kind, and of so many lists and consumers, may start with this entry: its slip fits, a listed queue has
  -- no keys, and the cargo agrees
  pub record MayStart (slip : Slip) (c : C) : Type 0 where
    pub fits : FitsQueue lists consumers slip
    pub key : KeyFits kind slip.key
    pub id : (load c).id ≡ slip.id
    pub size : (load c).size ≡ slip.size

  abbrev pub AllMayStart : List (Slip × C) → Type 0
  AllMayStart [] = Unit {0}
  AllMayStart (e ∷ es) = MayStart e.0 e.1 × AllMayStart es

-- no two entries that a last-value queue starts with have one key
abbrev pub StartsApart : {C : Type 0} → Kind → List (Slip × C) → Type 0
StartsApart kinds.LastValue start = KeysApart start
StartsApart kind start = Unit {0}

-- A queue of this kind, and of so many lists, rows and consumers, was made with these entries, and the pass of caller 0.
-- The entries are the rows of its opening, available and in their order, and nothing has happened. The pass has all
-- consumers, and may reserve and draw what the entries leave.
pub record IsFresh {C : Type 0} (load : C → Load) (kind : Kind) (lists rows consumers : ℕ) (start : List (Slip × C)) (build : Build) (s : Sight) : Type 0 where
  pub build_is : build ≡ built kind rows
  pub lists_is : s.opening.lists ≡ lists
  pub consumers_is : s.opening.consumers ≡ consumers
  pub opened : IsOpening s.opening
  pub started : AreStarted load start s.opening.rows
  pub allowance : s.allowance + length start ≡ most_entries
  pub share : s.share + length start ≡ rows
  pub sight :
      s
      ≡ record {
        opening = s.opening;
        caller = 0;
        consumers = below consumers;
        allowance = s.allowance;
        share = s.share;
        ended = [];
        made = 1;
        seen = [];
        shown = [];
        turns = 0;
      }

-- Passes

-- The pass of a new caller was split off the boss's: it takes over these consumers, and so many entries that it may
-- reserve and rows that it may draw. The boss has seen more perhaps, in which callers that were not made have no deed, and
-- the new pass has seen what the boss has.
pub record IsSplit (old boss new : Sight) (consumers : List ℕ) (n : ℕ) : Type 0 where
  pub grows : IsPrefix old.seen boss.seen
  pub legal : Legal old.opening boss.seen
  pub own_acts : own old.caller boss.seen ≡ own old.caller old.seen
  pub unmade : (k : ℕ) → old.made ≤ k → own k boss.seen ≡ []
  pub boss_is :
      boss
      ≡ record old {
        consumers = not_in consumers old.consumers;
        allowance = old.allowance - n;
        share = old.share - n;
        made = old.made + 1;
        seen = boss.seen;
      }
  pub new_is :
      new
      ≡ record {
        opening = old.opening;
        caller = old.made;
        consumers = consumers;
        allowance = n;
        share = n;
        ended = [];
        made = 0;
        seen = boss.seen;
        shown = [];
        turns = 0;
      }

-- A pass ended, and another has now what it had. What both had seen begins what is seen now, in which neither did more;
-- and where the other is the boss's, callers that were not made have no deed there.
pub record IsJoined (old gone new : Sight) : Type 0 where
  pub grows : IsPrefix old.seen new.seen
  pub tells : IsPrefix gone.seen new.seen
  pub legal : Legal old.opening new.seen
  pub own_acts : own old.caller new.seen ≡ own old.caller old.seen
  pub ended_acts : (k : ℕ) → Mem k old.ended → own k new.seen ≡ own k old.seen
  pub unmade : old.caller ≡ 0 → (k : ℕ) → old.made ≤ k → own k new.seen ≡ []
  pub gone_acts : (k : ℕ) → Mem k (gone.caller ∷ gone.ended) → own k new.seen ≡ own k gone.seen
  pub sight :
      new
      ≡ record old {
        consumers = old.consumers ++ gone.consumers;
        allowance = old.allowance + gone.allowance;
        share = old.share + gone.share;
        ended = old.ended ++ gone.caller ∷ gone.ended;
        seen = new.seen;
      }

-- the boss's pass may part with these consumers, and with so many entries and rows
pub record MayPart (s : Sight) (consumers : List ℕ) (n : ℕ) : Type 0 where
  pub boss : s.caller ≡ 0
  pub made : s.made < most_callers
  pub has : (c : ℕ) → Mem c consumers → Mem c s.consumers
  pub allowance : n ≤ s.allowance
  pub share : n ≤ s.share

-- The pass is caller 0's, and the passes of all others that were made were joined into it. No row is held, or between its
-- dequeue and its deletion.
pub record IsLast (s : Sight) : Type 0 where
  pub boss : s.caller ≡ 0
  pub every : (k : ℕ) → k < s.made → Mem k (s.caller ∷ s.ended)
  pub settled : Settled (known s)

-- what is left of the queue is what the pass knows, and nobody has done anything but those who were made
pub record IsClosed (kind : Kind) (s : Sight) (left : List Left) : Type 0 where
  pub rests : AreRests kind (known s) left
  pub callers : (k : ℕ) → s.made ≤ k → own k s.seen ≡ []
