use Rattle.std.proofs.Common.{◌<◌, ◌^◌, [], length, subst, sym}
use Rattle.script_read.specs.Allowed.{all_ops}
use Rattle.broker_top.specs.Job.{Script}
use Rattle.broker_top.specs.Generated.{script_of}
use Rattle.broker_top.proofs.Generating.{lines_few}
use Rattle.broker_top.proofs.Phasing.{ran_none}
use Rattle.broker_top.proofs.generated.tally_generated.Goals as goal

pub returns-in_default : goal.returns-in_default
returns-in_default g c = (0, [], ran_none (script_of c.args.number c.args.count) _)

pub tally_phases-requires-clause-few : goal.tally_phases-requires-clause-few
tally_phases-requires-clause-few g c κs within =
    subst (λ (s : Script). length (all_ops s.phases) < 2 ^ 64) (sym c.in-Ok.ensures.script) (lines_few c.args.number c.args.count c.requires.few)

pub returns : goal.returns
returns g c = rw c.in-Ok.ensures.script at c.tally_phases.ensures
