use Rattle.std.proofs.Common.{arith, ap}
use Rattle.queue_model.specs.declared.queues.Reservation.{Reservation}
use Rattle.link_core.proofs.Bounds.{reserved_few, size_few, changed_linked, reserve_few}
use Rattle.link_core.proofs.store.Store.reserves_after.Goals as goal

pub with_more-requires-clause-entries : goal.with_more-requires-clause-entries
with_more-requires-clause-entries c = omega (arith, ap (λ (v : Reservation). v.entries) c.reserved-held.ensures, (reserved_few _ _ c.args.caller 0 c.requires.kept.stands (omega arith)).0)

pub with_more-requires-clause-bytes : goal.with_more-requires-clause-bytes
with_more-requires-clause-bytes c =
    let linked = changed_linked _ c.args.caller _ _ _ _ c.in-State-default-Deq-default.is c.requires.fits in
    omega (arith, ap (λ (v : Reservation). v.bytes) c.reserved-held.ensures, c.size-in-State-default-Deq-default.ensures, (reserved_few _ _ c.args.caller _ c.requires.kept.stands (size_few _ _ _ c.requires.kept.stands linked)).1)

pub with_more-requires-in-Reserve-clause-entries : goal.with_more-requires-in-Reserve-clause-entries
with_more-requires-in-Reserve-clause-entries c = omega (arith, ap (λ (v : Reservation). v.entries) c.reserved-held.ensures, (reserved_few _ _ c.args.caller 0 c.requires.kept.stands (omega arith)).0)

pub with_more-requires-in-Reserve-clause-bytes : goal.with_more-requires-in-Reserve-clause-bytes
with_more-requires-in-Reserve-clause-bytes c =
    omega (arith, ap (λ (v : Reservation). v.bytes) c.reserved-held.ensures, (reserved_few _ _ c.args.caller c.in-Reserve.size c.requires.kept.stands (reserve_few _ c.args.caller _ _ c.in-Reserve.is c.requires.fits)).1)
