use Rattle.std.proofs.Common.{arith, subst}
use Rattle.queue_model.specs.declared.steps.Step.{Step}
use Rattle.link_core.specs.Kept.{table_in}
use Rattle.link_core.specs.Steps.{Fits}
use Rattle.link_core.proofs.Ringing.{linked_low}
use Rattle.link_core.proofs.store.Store.step_place.Goals as goal

pub returns-in-Ring-clause-low : goal.returns-in-Ring-clause-low
returns-in-Ring-clause-low c =
    let k = c.requires.kept in
    let fits = subst (λ (x : Step). Fits (table_in c.args.self.now) c.args.caller x) c.in-Ring.is c.requires.fits in
    let low = linked_low _ k.queue c.in-Ring.row k.stands fits.row in
    let few = k.stands.shaped.few_consumers in
    let long = k.stands.shaped.long in
    omega (arith, c.bell_place.ensures, c.list.ensures, low.0, fits.consumer, few, long)
