use Rattle.std.proofs.Common.{◌≡◌}
use Rattle.entry_table.specs.Passes.{IsPassOf, opening, share}
use Rattle.entry_table.proofs.tests.draw_all.Given as goal

abbrev pub invariant-rows : goal.invariant-rows
invariant-rows l = record { table : IsPassOf l.entries l.pass; same : opening l.pass ≡ opening l.fn.pass }

abbrev pub decreases-rows : goal.decreases-rows
decreases-rows l = share l.pass
