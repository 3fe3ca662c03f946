use Rattle.std.proofs.Common.{◌≡◌, ◌+◌, ◌-◌, ◌≤◌, vec_len}
use Rattle.outside_io.specs.Told.{Takes}
use Rattle.broker_top.specs.Input.{input_limit}
use Rattle.broker_top.proofs.input.read_input.Given as goal

abbrev pub invariant-reading : goal.invariant-reading
invariant-reading g l = record {
  taken : Takes (g.S.Source.left l.fn.source) (g.S.Source.left l.source) l.kept.items;
  faults : g.S.Source.faults l.source ≡ g.S.Source.faults l.fn.source;
  within : vec_len l.kept ≤ input_limit + 1;
  chunk : vec_len l.chunk ≡ 65536;
}

abbrev pub decreases-reading : goal.decreases-reading
decreases-reading g l = input_limit + 1 - vec_len l.kept
