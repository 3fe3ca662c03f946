-- views of seats that are split off, joined and told
use Rattle.std.specs.Prelude.{◌≡◌, ℕ, ◌+◌, ◌-◌, ◌≤◌, false, List, [], ◌∷◌}
use Rattle.queue_model.specs.declared.deeds.Deed.{Deed}
use Rattle.acts_core.specs.Kept.{Kept}
use Rattle.history_lock.specs.declared.view.View.{View}
use Rattle.history_lock.specs.Plays.{Later, Unmade, merged, told, told_of}
use Rattle.history_lock.specs.Rule.{Learns}
use Rattle.held_table.specs.declared.view.Outset.{Outset}
use Rattle.held_table.specs.Tales.{core_tale, IsHistory, rows_after}
use Rattle.held_table.specs.Views.{not_in, outset_in}

module _ {Q : Type 0} (keeps : Q → Kept) where
  -- The boss, whose view was v, parted with these consumers and with n of its allowance and share, to a new caller, whose
  -- number was drawn and whose view is u.
  pub record Parted (v w u : View Outset Deed) (consumers : List ℕ) (n number : ℕ) : Type 0 where
    pub drawn : number ≡ v.made
    pub later : Later (core_tale keeps) v w.seen
    pub history : IsHistory (outset_in v) w.seen
    pub unmade : Unmade (core_tale keeps) v w.seen
    pub boss : w ≡ record v { made = v.made + 1; consumers = not_in consumers v.consumers; allowance = v.allowance - n; share = v.share - n; told = []; seen = w.seen }
    pub new : u ≡ record { opening = v.opening; callers = v.made ∷ []; made = 0; consumers = consumers; allowance = n; share = n; turns = 0; holding = false; told = []; seen = w.seen }

  -- what both had seen begins what is seen now, in which neither's callers did more
  pub record Knows (v w : View Outset Deed) (seen : List Deed) : Type 0 where
    pub history : IsHistory (outset_in v) seen
    pub mine : Learns (core_tale keeps) seen (told_of v)
    pub theirs : Learns (core_tale keeps) seen (told_of w)
    pub unmade : Unmade (core_tale keeps) v seen

  -- the view v took the view w over
  pub record Merged (v w u : View Outset Deed) : Type 0 where
    pub knows : Knows v w u.seen
    pub shared : v.share + w.share + rows_after (outset_in v) u.seen ≤ (outset_in v).rows
    pub view : u ≡ record (merged v w) { seen = u.seen }

  -- the view v was told what the view w had seen
  pub record Told (v w u : View Outset Deed) : Type 0 where
    pub knows : Knows v w u.seen
    pub view : u ≡ record (told v w) { seen = u.seen }
