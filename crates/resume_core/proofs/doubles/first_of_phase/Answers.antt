use Rattle.std.proofs.Common.{map, refl}
use Rattle.script_read.specs.Allowed.{ops_in}
use Rattle.resume_core.specs.Steps.{puts_key}
use Rattle.resume_core.proofs.Firsts.{item_next}
use Rattle.resume_core.proofs.doubles.first_of_phase.Goals as goal

pub actors-preserved : goal.actors-preserved
actors-preserved c =
    let next = item_next (λ op. puts_key c.args.keys.now op.what) (λ a. a.1.items) (λ actors. ops_in (map (λ a. (a.0, a.1.items)) actors)) c.as_slice-actors.result.now c.actors.actor-index c.actor-item.result c.actors.found _
    (λ a actors. refl) c.actors-test.true c.actors.invariant in
    rw (c.sooner-found.ensures, c.first_of_actor.ensures, c.deref.ensures.value, c.actor-item.is) next
