-- how held queues are made, and their passes split off, joined, told and given back
use Rattle.std.specs.Prelude.{◌≡◌, ℕ, ◌+◌, ◌-◌, ◌<◌, ◌≤◌, false, List, [], ◌∷◌, ◌++◌, length}
use mathlib.Core.List.{IsPrefix, Mem}
use Rattle.queue_model.specs.History.{Legal, own}
use Rattle.queue_model.specs.Table.{most_entries}
use Rattle.acts_core.specs.Asked.{most_callers}
use Rattle.acts_core.specs.Kept.{Kept, Stands}
use Rattle.acts_core.specs.Sight.{Kind, Build, Sight, known}
use Rattle.held_table.specs.Openings.{Opens}
use Rattle.held_table.specs.Tales.{wide}
use Rattle.held_table.specs.Views.{not_in, below}

-- A queue of n consumers was made with a one-thread queue that keeps k, and the pass of caller 0. What it keeps is the
-- opening, and nothing has happened. The pass has all consumers, and may reserve what the opening's entries leave and
-- draw the spare.
pub record IsFresh (kind : Kind) (k : Kept) (n : ℕ) (build : Build) (s : Sight) : Type 0 where
  pub build_is : build ≡ record { kind = kind; bells = false; rows = k.spare + length k.rows }
  pub opens : Opens n k s.opening
  pub allowance : s.allowance + length k.rows ≡ most_entries
  pub sight :
      s
      ≡ record {
        opening = s.opening;
        caller = 0;
        consumers = below n;
        allowance = s.allowance;
        share = k.spare;
        ended = [];
        made = 1;
        seen = [];
        shown = [];
        turns = 0;
      }

-- the boss's pass may part with these consumers, and with so many entries and rows
pub record MayPart (s : Sight) (consumers : List ℕ) (n : ℕ) : Type 0 where
  pub boss : s.caller ≡ 0
  pub made : s.made < most_callers
  pub has : (c : ℕ) → Mem c consumers → Mem c s.consumers
  pub allowance : n ≤ s.allowance
  pub share : n ≤ s.share

-- The pass of a new caller was split off the boss's: it takes over these consumers, and so many entries that it may
-- reserve and rows that it may draw. The boss has seen more perhaps, in which callers that were not made have no deed, and
-- the new pass has seen what the boss has.
pub record IsSplit (old boss new : Sight) (consumers : List ℕ) (n : ℕ) : Type 0 where
  pub grows : IsPrefix old.seen boss.seen
  pub legal : Legal old.opening boss.seen
  pub own_acts : own old.caller boss.seen ≡ own old.caller old.seen
  pub unmade : (k : ℕ) → old.made ≤ k → own k boss.seen ≡ []
  pub boss_is :
      boss
      ≡ record old {
        consumers = not_in consumers old.consumers;
        allowance = old.allowance - n;
        share = old.share - n;
        made = old.made + 1;
        seen = boss.seen;
      }
  pub new_is :
      new
      ≡ record {
        opening = old.opening;
        caller = old.made;
        consumers = consumers;
        allowance = n;
        share = n;
        ended = [];
        made = 0;
        seen = boss.seen;
        shown = [];
        turns = 0;
      }

-- What a pass knows after it was told something: its caller did no more, nor did those that ended; and where it is the
-- boss's, callers that were not made have no deed.
pub record Grew (old new : Sight) : Type 0 where
  pub grows : IsPrefix old.seen new.seen
  pub legal : Legal old.opening new.seen
  pub own_acts : own old.caller new.seen ≡ own old.caller old.seen
  pub ended_acts : (k : ℕ) → Mem k old.ended → own k new.seen ≡ own k old.seen
  pub unmade : old.caller ≡ 0 → (k : ℕ) → old.made ≤ k → own k new.seen ≡ []

-- A pass ended, and another has now what it had. What both had seen begins what is seen now, in which neither did more.
pub record IsJoined (old gone new : Sight) : Type 0 where
  pub grew : Grew old new
  pub tells : IsPrefix gone.seen new.seen
  pub gone_acts : (k : ℕ) → Mem k (gone.caller ∷ gone.ended) → own k new.seen ≡ own k gone.seen
  pub sight :
      new
      ≡ record old {
        consumers = old.consumers ++ gone.consumers;
        allowance = old.allowance + gone.allowance;
        share = old.share + gone.share;
        ended = old.ended ++ gone.caller ∷ gone.ended;
        seen = new.seen;
      }

-- a pass was told all that another has seen, and is else the same
pub record IsMet (old from new : Sight) : Type 0 where
  pub grew : Grew old new
  pub tells : IsPrefix from.seen new.seen
  pub sight : new ≡ record old { seen = new.seen }

-- the pass is caller 0's, and the passes of all others that were made were joined into it
pub record IsLast (s : Sight) : Type 0 where
  pub boss : s.caller ≡ 0
  pub every : (k : ℕ) → k < s.made → Mem k (s.caller ∷ s.ended)

-- the one-thread queue stands for all that the pass knows, and nobody has done anything but those who were made
pub record IsClosed (s : Sight) (k : Kept) : Type 0 where
  pub stands : Stands k (wide (known s))
  pub callers : (k : ℕ) → s.made ≤ k → own k s.seen ≡ []
