use Rattle.std.proofs.Common.{◌≡◌, ◌++◌, map}
use Rattle.std.specs.List.{range_with_len}
use Rattle.script_read.specs.Phases.{actors_in}
use Rattle.gen_core.specs.Generated.{putter}
use Rattle.gen_core.proofs.phases.add_putters.Given as goal

abbrev pub invariant-loop-number : goal.invariant-loop-number
invariant-loop-number l = actors_in l.phase ≡ actors_in l.fn.phase ++ map (putter l.fn.first l.fn.count) (range_with_len 0 l.number)
