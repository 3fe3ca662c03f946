use Rattle.std.proofs.Common.{◌≡◌, List, Some, slice_get, sym, subst}
use Rattle.std.specs.List.{AllByRecursion, count_by}
use Rattle.defs_read.specs.Defined.{queues_in}
use Rattle.workers_core.specs.Jobs.{takes_for}
use Rattle.workers_core.specs.Made.{TakesWithin}
use Rattle.workers_core.specs.declared.jobs.Job.{Job}
use Rattle.workers_core.proofs.Served.{takes_within}
use Rattle.workers_core.proofs.Preparing.{may_take}
use Rattle.workers_core.proofs.making.equip.Goals as goal

pub all_takes-requires : goal.all_takes-requires
all_takes-requires g c =
    let jobs : List Job = c.in_ok-jobs.jobs.items in
    subst (AllByRecursion (λ (j : Job). TakesWithin j.op.what)) (sym c.deref-2.ensures.value) (takes_within (queues_in c.args.defs.now) jobs c.requires.allowed.consumers c.in_ok-jobs.ensures.fits)

pub returns-clause-ready : goal.returns-clause-ready
returns-clause-ready g c =
    let jobs : List Job = c.in_ok-jobs.jobs.items in
    let within = takes_within (queues_in c.args.defs.now) jobs c.requires.allowed.consumers c.in_ok-jobs.ensures.fits in
    may_take _ jobs c.all_takes.result within (λ k below. subst (λ (js : List Job). slice_get c.all_takes.result k ≡ Some (count_by (λ (j : Job). takes_for k j.op.what) js)) c.deref-2.ensures.value (c.all_takes.ensures k below)) c.in_ok-prepare_all.ensures.ready
