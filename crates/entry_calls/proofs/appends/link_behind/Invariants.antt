use Rattle.std.proofs.Common.{◌≡◌, ◌≤◌, ◌+◌, ◌-◌, []}
use Rattle.acts_core.specs.Walks.{reach, IsStop}
use Rattle.entry_table.specs.Passes.{shown, state, view}
use Rattle.entry_table.specs.Sights.{Serves}
use Rattle.entry_table.specs.Tries.{tries}
use Rattle.entry_calls.specs.Appends.{Described, Ran}
use Rattle.entry_calls.proofs.appends.link_behind.Given as goal

abbrev pub invariant-turns : goal.invariant-turns
invariant-turns g l = record {
  serves : Serves l.entries l.pass;
  ran : Ran l.fn.pass l.pass [];
  same_row : l.draft.row ≡ l.fn.draft.row;
  same_cargo : l.draft.cargo ≡ l.fn.draft.cargo;
  described : Described l.pass l.draft.row l.slip;
  stands : IsStop (state l.pass) l.slip.list l.stop;
  began : IsStop (state l.pass) l.slip.list l.tail;
  past : reach (state l.pass) l.tail ≤ reach (state l.pass) l.stop;
  tried : tries (shown l.pass) + reach (state l.pass) l.tail ≤ tries (shown l.fn.pass) + reach (state l.pass) l.stop;
}

abbrev pub decreases-turns : goal.decreases-turns
decreases-turns g l = (view l.fn.pass).shape.rows - reach (state l.pass) l.stop
