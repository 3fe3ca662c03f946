use Rattle.std.proofs.Common.{ap, arith}
use Rattle.std.proofs.Math.ListN.{drop_of_length-le}
use Rattle.defs_read.specs.Defined.{queues_in}
use Rattle.stage_core.specs.Items.{names_in}
use Rattle.stage_core.specs.Room.{lines_bytes}
use Rattle.stage_core.proofs.room.room_for.Goals as goal

pub returns : goal.returns
returns c =
    let i = c.lines.invariant in
    let none = ap (lines_bytes (names_in (queues_in c.args.defs.now))) (drop_of_length-le c.args.ops.now {i = c.lines.op-index} c.lines-test.false) in
    omega (arith, i.same, i.low, none)
