use Rattle.std.proofs.Common.{◌≡◌, ◌∙◌, [], ◌∷◌, ◌++◌, ap, sym, refl, Some, arith}
use Rattle.std.specs.List.{position, find}
use Rattle.queue_model.specs.declared.queues.Reservation.{Reservation}
use Rattle.queue_model.specs.State.{is_holder}
use Rattle.queue_model.specs.Table.{more}
use Rattle.queue_model.proofs.Positions.{written_is_alter, found_is_at, pushed_is_alter}
use Rattle.queue_model.proofs.RowFacts.{first_entry}
use Rattle.queue_model.proofs.field_lists.add_reserved.Goals as goal

pub overflow_add-reservation : goal.overflow_add-reservation
overflow_add-reservation c =
    let p = is_holder c.args.holder in
    let v = c.index_mut-reservation.result.now in
    let found : find p c.args.reserved.now.items ≡ Some v = found_is_at p _ _ c.in-Some.index v (c.holder_index.ensures ∙ ap (position p) c.deref.ensures.value) c.in-Some.is ∙ ap Some (sym c.index_mut-reservation.ensures.value) in
    omega (arith, (c.requires.fits v found).0)

pub overflow_add-reservation-in-Some : goal.overflow_add-reservation-in-Some
overflow_add-reservation-in-Some c =
    let p = is_holder c.args.holder in
    let v = c.index_mut-reservation.result.now in
    let found : find p c.args.reserved.now.items ≡ Some v = found_is_at p _ _ c.in-Some.index v (c.holder_index.ensures ∙ ap (position p) c.deref.ensures.value) c.in-Some.is ∙ ap Some (sym c.index_mut-reservation.ensures.value) in
    omega (arith, (c.requires.fits v found).1)

pub returns-in-Some : goal.returns-in-Some
returns-in-Some c =
    let p = is_holder c.args.holder in
    let v = c.index_mut-reservation.result.now in
    written_is_alter p (more c.args.holder c.args.size) c.args.reserved.now.items _ c.in-Some.index v _ (c.holder_index.ensures ∙ ap (position p) c.deref.ensures.value) c.in-Some.is
    (ap (λ w. more c.args.holder c.args.size (Some w)) (sym c.index_mut-reservation.ensures.value))

pub returns-in-None : goal.returns-in-None
returns-in-None c =
    let p = is_holder c.args.holder in
    c.push_reserved.ensures.items ∙ ap (λ (v : Reservation). c.args.reserved.now.items ++ v ∷ []) (first_entry c.args.holder c.args.size) ∙ pushed_is_alter p (more c.args.holder c.args.size) c.args.reserved.now.items _ _ (c.holder_index.ensures ∙ ap (position p) c.deref.ensures.value) c.in-None.is refl
