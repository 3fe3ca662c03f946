use Rattle.std.proofs.Common.{◌≡◌, length}
use Rattle.entry_table.specs.Sights.{sight}
use Rattle.cursor_core.specs.Holding.{AreFresh}
use Rattle.cursor_core.proofs.pass_cursors.PassCursors.fresh.Given as goal

-- the consumers before this one have their cursors
abbrev pub invariant-loop-consumer : goal.invariant-loop-consumer
invariant-loop-consumer l = record {
  fresh : AreFresh (sight l.pass) l.consumer l.slots;
  places : length l.slots ≡ 64;
}
