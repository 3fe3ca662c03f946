use Rattle.acts_core.proofs.Passes.{pass_dequeues}
use Rattle.entry_table.specs.Sights.{build_of, sight}
use Rattle.entry_calls.proofs.stress_tests.take_out.Goals as goal

pub delete-requires-clause-dequeued : goal.delete-requires-clause-dequeued
delete-requires-clause-dequeued g c =
    let d = c.dequeue.ensures.called in
    pass_dequeues (build_of c.args.entries.now) (sight c.acquire.new.pass) (sight c.dequeue.new.pass) c.in-Some.row d.0 d.1
