use Rattle.std.proofs.Common.{refl}
use Rattle.acts_core.specs.Calls.{CallSteal, HasStolen}
use Rattle.acts_core.proofs.Passes.{pass_finds, pass_gains, pass_dequeues}
use Rattle.entry_table.specs.Sights.{build_of, sight}
use Rattle.entry_calls.proofs.stress_tests.steal_out.Goals as goal

pub steal-requires-clause-row : goal.steal-requires-clause-row
steal-requires-clause-row g c =
    let f = pass_finds (build_of c.args.entries.now) (sight c.args.pass.now) (sight c.find.new.pass) c.args.id c.in-Some.row c.in-Some.ensures.called in
    (f.0, f.1)

pub dequeue-requires-clause-holder : goal.dequeue-requires-clause-holder
dequeue-requires-clause-holder g c =
    let load = g.C.Freight.goods c.in-Stolen.field-0 in
    let t = (pass_gains (build_of c.args.entries.now) (sight c.find.new.pass) (sight c.steal.new.pass) (CallSteal c.in-Some.row) (HasStolen load) c.in-Some.row load c.in-Stolen.ensures.called refl).0 in
    (t.row, t.found, t.held)

pub delete-requires-clause-dequeued : goal.delete-requires-clause-dequeued
delete-requires-clause-dequeued g c =
    let d = c.dequeue.ensures.called in
    pass_dequeues (build_of c.args.entries.now) (sight c.steal.new.pass) (sight c.dequeue.new.pass) c.in-Some.row d.0 d.1
