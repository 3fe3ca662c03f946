use Rattle.std.proofs.Common.{◌≡◌, vec_len}
use Rattle.entry_table.specs.Passes.{IsPassOf, view}
use Rattle.entry_table.proofs.Ends.{Going}
use Rattle.entry_table.proofs.entries.Entries.lay_all.Given as goal

abbrev pub invariant-entries : goal.invariant-entries
invariant-entries g l = record {
  table : IsPassOf l.self l.pass;
  caller : l.pass.caller ≡ 0;
  going : Going g.C.Freight.goods l.fn.start.items (view l.pass) l.stops l.places l.rest.items;
}

abbrev pub decreases-entries : goal.decreases-entries
decreases-entries g l = vec_len l.rest
