use Rattle.std.proofs.Common.{refl, arith}
use Rattle.acts_core.specs.Calls.{CallLock, IsLocked}
use Rattle.acts_core.proofs.Passes.{pass_hands}
use Rattle.entry_table.specs.Sights.{build_of, sight}
use Rattle.entry_calls.proofs.stress_tests.lock_again.Goals as goal

pub release-requires-clause-handed : goal.release-requires-clause-handed
release-requires-clause-handed g c =
    let load = g.C.Freight.goods c.in-Locked.cargo in
    pass_hands (build_of c.args.entries.now) (sight c.args.pass.now) (sight c.lock.new.pass) (CallLock c.args.row) (IsLocked load) c.args.row load load.count c.in-Locked.ensures.called refl (omega arith)
