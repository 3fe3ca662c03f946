use Rattle.std.proofs.Common.{◌≡◌, length, take}
use Rattle.cursor_core.specs.Holding.{AreHanded}
use Rattle.cursor_core.proofs.pass_cursors.PassCursors.hand.Given as goal

-- the cursors of the first consumers went over
abbrev pub invariant-loop-i : goal.invariant-loop-i
invariant-loop-i l = record {
  handed : AreHanded (take l.i l.consumers) l.fn.self.slots l.self.slots l.slots;
  places : length l.slots ≡ 64;
}
