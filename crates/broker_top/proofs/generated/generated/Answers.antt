use Rattle.broker_top.proofs.Generating.{may_run_as}
use Rattle.broker_top.proofs.generated.generated.Goals as goal

pub returns-clause-runs : goal.returns-clause-runs
returns-clause-runs c =
    let made = c.in_ok-defs.ensures in
    may_run_as c.args.number c.args.count c.requires.few _ _ made.definitions made.script made.allowed made.runs
