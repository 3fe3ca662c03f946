use Rattle.std.proofs.Common.{◌∙◌, arith, map, sym}
use Rattle.std.proofs.lemmas.List.{length-map}
use Rattle.defs_read.specs.Defined.{defined, queues_in}
use Rattle.broker_top.proofs.Names.{is_empty}
use Rattle.broker_top.proofs.phases.none_left.Goals as goal

pub returns : goal.returns
returns c =
    let queues = c.args.defs.now.queues.items in
    is_empty (queues_in c.args.defs.now) c.queues.left.items
    (omega (arith, c.queues.invariant.many, c.queues-test.false, c.queues.auto._queue-index-end, c.as_slice-queues.ensures.len, length-map queues defined))
    c.queues.invariant.empty
