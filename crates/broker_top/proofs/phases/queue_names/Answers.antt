use Rattle.std.proofs.Common.{◌∙◌, ◌++◌, append-nil, ap, arith, map, sym}
use Rattle.std.proofs.Math.ListN.{drop_of_length-le}
use Rattle.broker_top.proofs.Names.{names_of}
use Rattle.broker_top.proofs.phases.queue_names.Goals as goal

pub returns : goal.returns
returns c =
    let all = c.as_slice-queues.result.now in
    let names = c.queues.names.items in
    let rest = drop_of_length-le all {i = c.queues.queue-index} (omega (arith, c.queues-test.false)) in
    let whole = sym (append-nil names) ∙ sym (ap (λ xs. names ++ map (λ q. q.name) xs) rest) ∙ c.queues.invariant.names in
    rw c.as_slice-queues.ensures.value at (whole ∙ names_of all)
