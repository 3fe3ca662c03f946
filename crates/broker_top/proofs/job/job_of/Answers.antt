use Rattle.std.proofs.Common.{◌≡◌, ap, sym, None, Ok, Option, ℕ}
use Rattle.broker_top.specs.Job.{Script, first_unbuilt, if_built}
use Rattle.defs_read.specs.Defined.{queues_in}
use Rattle.script_read.specs.Phases.{phases_in}
use Rattle.broker_top.proofs.Runnable.{all_built}
use Rattle.broker_top.proofs.job.job_of.Goals as goal

pub returns-in-Ok-None-clause-runs : goal.returns-in-Ok-None-clause-runs
returns-in-Ok-None-clause-runs c =
    let script : Script = record { defs = queues_in c.args.defs; phases = phases_in c.args.script } in
    let none : first_unbuilt c.args.number script ≡ None = sym c.in_default.ensures in
    let built = all_built c.args.number script none in
    record {
      defs = c.requires.defs;
      phases = c.requires.script;
      queues = built.0;
      lines = built.1;
      few = rw c.in-Ok-None.field-0-is at c.in-Ok-None.ensures;
    }

pub returns-in-Ok-Some-clause-says : goal.returns-in-Ok-Some-clause-says
returns-in-Ok-Some-clause-says c =
    let script : Script = record { defs = queues_in c.args.defs; phases = phases_in c.args.script } in
    let none : first_unbuilt c.args.number script ≡ None = sym c.in_default.ensures in
    (script, ap (if_built script) none, rw (c.in-Ok-Some.field-0-is, c.in-Ok-Some.line-is) at c.in-Ok-Some.ensures)
