use Rattle.std.proofs.Common.{◌≡◌, length}
use Rattle.cursor_core.proofs.Slots.{TakenBelow}
use Rattle.cursor_core.proofs.pass_cursors.PassCursors.take_in.Given as goal

-- the cursors of the first places were taken in
abbrev pub invariant-loop-i : goal.invariant-loop-i
invariant-loop-i l = record {
  taken : TakenBelow l.i l.fn.self.slots l.fn.gone.slots l.self.slots l.slots;
  places : length l.slots ≡ 64;
}
