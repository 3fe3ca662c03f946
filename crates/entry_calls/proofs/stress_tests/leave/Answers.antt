use Rattle.acts_core.proofs.Passes.{pass_leaves}
use Rattle.entry_table.specs.Sights.{build_of, sight}
use Rattle.entry_calls.proofs.stress_tests.leave.Goals as goal

pub returns-in-Some-clause-left : goal.returns-in-Some-clause-left
returns-in-Some-clause-left g c =
    pass_leaves (build_of c.args.entries.now) (sight c.acquire.new.pass) (sight c.unlock.new.pass) c.in-Some.row (g.C.Freight.goods c.in-Some.cargo) c.unlock.ensures.called
