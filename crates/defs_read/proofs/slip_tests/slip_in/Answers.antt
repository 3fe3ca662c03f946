use Rattle.std.proofs.Common.{◌≡◌, ◌∙◌, sym, ap, subst, refl, List, Some, get_or, slice_get}
use Rattle.std.proofs.lemmas.Bool.{ltb-true}
use Rattle.std.proofs.lemmas.Option.{slice_get_read}
use Rattle.std.specs.Option.{is_some, IfSome}
use Rattle.defs_read.specs.declared.defs.QueueDef.{QueueDef}
use Rattle.defs_read.proofs.Bounds.{allowed_at}
use Rattle.defs_read.proofs.slip_tests.slip_in.Goals as goal

pub slip-requires : goal.slip-requires
slip-requires g c =
    let place = c.args.place in
    let queue = c.expect-queue.result.now in
    let found : slice_get c.deref.result.now place ≡ Some queue = slice_get_read c.deref.result.now _ place queue refl
    (ltb-true place _ (sym c.get.ensures.lookup.0 ∙ ap is_some c.expect-queue.ensures))
    (subst (λ o. IfSome o (λ x. x.now ≡ get_or c.deref.result.now place x.now)) c.expect-queue.ensures c.get.ensures.lookup.1) in
    (allowed_at c.in-Ok.defs.queues.items place queue c.in-Ok.ensures.allowed (ap (λ (queues : List QueueDef). slice_get queues place) (sym c.deref.ensures.value) ∙ found)).slips
