use Rattle.std.proofs.Common.{sym, subst, ◌∙◌}
use Rattle.defs_read.specs.Allowed.{IsAllowed}
use Rattle.defs_read.specs.Defined.{defined, queues_in}
use Rattle.script_read.specs.declared.lines.What.{What}
use Rattle.workers_core.specs.Jobs.{JobFits}
use Rattle.workers_core.specs.Ready.{Serves}
use Rattle.workers_core.specs.declared.jobs.Aid.TheVariants.{Slip}
use Rattle.workers_core.proofs.Served.{all_at, def_at, needs_nothing, no_place, serves_other, serves_put, serves_take}
use Rattle.workers_core.proofs.making.aid_of.Goals as goal

pub unreachable-requires : goal.unreachable-requires
unreachable-requires c = no_place (queues_in c.args.defs.now) c.args.op.now.actor c.in-Take.consumer c.args.op.now.what c.in-Take.is c.requires.own.0 (sym c.place_of.ensures ∙ c.in-None.is)

pub slip-requires : goal.slip-requires
slip-requires c = (all_at IsAllowed (queues_in c.args.defs.now) c.in-Put.queue (defined c.index.result.now) c.requires.allowed.each (def_at c.args.defs.now c.in-Put.queue c.index.result.now c.args.op.now.actor c.args.op.now.what c.in-Put.message c.in-Put.is c.requires.own.0 c.index.ensures)).slips

pub returns-in_ok-slip-in-Put-clause-fits : goal.returns-in_ok-slip-in-Put-clause-fits
returns-in_ok-slip-in-Put-clause-fits c =
    let there = def_at c.args.defs.now c.in-Put.queue c.index.result.now c.args.op.now.actor c.args.op.now.what c.in-Put.message c.in-Put.is c.requires.own.0 c.index.ensures in
    subst (λ (w : What). JobFits (queues_in c.args.defs.now) w (Slip c.in_ok-slip-in-Put.slip)) (sym c.in-Put.is) (defined c.index.result.now, there, c.in_ok-slip-in-Put.ensures.slip)

pub returns-in_ok-slip-in-Put-clause-serves : goal.returns-in_ok-slip-in-Put-clause-serves
returns-in_ok-slip-in-Put-clause-serves c = λ sights passes.
    let defs = queues_in c.args.defs.now in
    let def = defined c.index.result.now in
    let there = def_at c.args.defs.now c.in-Put.queue c.index.result.now c.args.op.now.actor c.args.op.now.what c.in-Put.message c.in-Put.is c.requires.own.0 c.index.ensures in
    let told = c.in_ok-slip-in-Put.ensures in
    subst (λ (w : What). Serves sights w (Slip c.in_ok-slip-in-Put.slip)) (sym c.in-Put.is)
    (serves_put c.args.op.now.actor defs sights passes c.in-Put.queue c.in-Put.message def c.in_ok-slip-in-Put.slip there told.slip told.fits)

pub returns-in-Some-clause-serves : goal.returns-in-Some-clause-serves
returns-in-Some-clause-serves c = λ sights passes. serves_take c.args.op.now.actor (queues_in c.args.defs.now) sights passes c.in-Take.consumer c.in-Some.queue c.in-Some.place c.args.op.now.what c.requires.allowed.consumers c.in-Take.is c.requires.own.0 (sym c.place_of.ensures ∙ c.in-Some.is)

pub returns-in-Close-clause-serves : goal.returns-in-Close-clause-serves
returns-in-Close-clause-serves c = λ sights passes. serves_other c.args.op.now.actor (queues_in c.args.defs.now) sights passes c.args.op.now.what _ c.requires.allowed.consumers c.requires.own.0 c.requires.own.1 (needs_nothing c.args.op.now.what c.in-Close.is)
