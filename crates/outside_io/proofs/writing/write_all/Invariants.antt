use Rattle.std.proofs.Common.{◌≡◌, ◌-◌, ◌≤◌, length, take}
use Rattle.outside_io.specs.Told.{Adds}
use Rattle.outside_io.proofs.writing.write_all.Given as goal

-- the bytes before `at` were written and no call failed, and none was made where there are no such bytes
abbrev pub invariant-writing : goal.invariant-writing
invariant-writing g l = record {
  within : l.at ≤ length l.bytes;
  added : Adds (g.K.Sink.written l.fn.out) (g.K.Sink.written l.out) (take l.at l.bytes);
  counted : g.K.Sink.faults l.out ≡ g.K.Sink.faults l.fn.out;
  untouched : l.at ≡ 0 → l.out ≡ l.fn.out;
}

abbrev pub decreases-writing : goal.decreases-writing
decreases-writing g l = length l.bytes - l.at
