-- a table and its passes, as the contracts of every queue see them
use Rattle.std.specs.Prelude.{true}
use Rattle.queue_model.specs.Sound.{IsOpening}
use Rattle.queue_model.specs.History.{Legal}
use Rattle.acts_core.specs.Sight.{Build, Listed, Sight}
use Rattle.entry_table.specs.declared.entries.Entries.{Entries}
use Rattle.entry_table.specs.declared.pass.Pass.{Pass}
use Rattle.entry_table.specs.Passes.{IsPassOf, view, opening, seen, shown, allowance, share, callers, consumers}
use Rattle.entry_table.specs.Views.{rest_of}

-- what contracts see of a table: lists, whose calls ring bells and take them
abbrev pub build_of : {C : Type 0} → Entries C → Build
build_of e = record { kind = Listed; bells = true; rows = e.shape.rows }

-- what contracts see of a pass: the callers behind its own have ended
abbrev pub sight : Pass → Sight
sight p = record {
  opening = opening p;
  caller = p.caller;
  consumers = consumers p;
  allowance = allowance p;
  share = share p;
  ended = rest_of (callers p);
  made = (view p).made;
  seen = seen p;
  shown = shown p;
  turns = 0;
}

-- the pass is one of this table, which began with an opening; what it has seen is legal
pub record Serves {C : Type 0} (e : Entries C) (p : Pass) : Type 0 where
  pub pass : IsPassOf e p
  pub legal : Legal (opening p) (seen p)
  pub opening : IsOpening (opening p)
