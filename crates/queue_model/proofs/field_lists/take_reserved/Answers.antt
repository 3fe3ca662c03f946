use Rattle.std.proofs.Common.{◌≡◌, ◌∙◌, ap, sym, cond, refl, Some, None, arith, eq-eqb, ne_eqb}
use Rattle.std.specs.List.{position, find}
use Rattle.queue_model.specs.State.{is_holder}
use Rattle.queue_model.specs.Table.{less, with_less}
use Rattle.queue_model.proofs.Positions.{written_is_alter, removed_is_alter, found_is_at, same_is_alter}
use Rattle.queue_model.proofs.field_lists.take_reserved.Goals as goal

pub overflow_sub-held : goal.overflow_sub-held
overflow_sub-held c =
    let p = is_holder c.args.holder in
    let v = c.index-held.result.now in
    let found : find p c.args.reserved.now.items ≡ Some v = found_is_at p _ _ c.in-Some.index v (c.holder_index.ensures ∙ ap (position p) c.deref.ensures.value) c.in-Some.is ∙ ap Some (sym c.index-held.ensures) in
    omega (arith, (c.requires v found).0)

pub overflow_sub-held-else-held-eq1 : goal.overflow_sub-held-else-held-eq1
overflow_sub-held-else-held-eq1 c =
    let p = is_holder c.args.holder in
    let v = c.index-held.result.now in
    let found : find p c.args.reserved.now.items ≡ Some v = found_is_at p _ _ c.in-Some.index v (c.holder_index.ensures ∙ ap (position p) c.deref.ensures.value) c.in-Some.is ∙ ap Some (sym c.index-held.ensures) in
    omega (arith, (c.requires v found).1)

pub returns-then-held-eq1 : goal.returns-then-held-eq1
returns-then-held-eq1 c =
    let p = is_holder c.args.holder in
    let v = c.index-held.result.now in
    c.remove.ensures.items
    ∙ removed_is_alter p (less c.args.size) c.args.reserved.now.items _ c.in-Some.index v (c.holder_index.ensures ∙ ap (position p) c.deref.ensures.value) c.in-Some.is
    (ap (λ w. less c.args.size (Some w)) (sym c.index-held.ensures)
    ∙ ap (λ b. cond b None (Some (with_less v c.args.size))) (eq-eqb v.entries 1 c.if-held-eq1.true))

pub returns-else-held-eq1 : goal.returns-else-held-eq1
returns-else-held-eq1 c =
    let p = is_holder c.args.holder in
    let v = c.index-held.result.now in
    written_is_alter p (less c.args.size) c.args.reserved.now.items _ c.in-Some.index v _ (c.holder_index.ensures ∙ ap (position p) c.deref.ensures.value) c.in-Some.is
    (ap (λ w. less c.args.size (Some w)) (sym c.index-held.ensures)
    ∙ ap (λ b. cond b None (Some (with_less v c.args.size))) (ne_eqb v.entries 1 c.if-held-eq1.false))

pub returns-in_default : goal.returns-in_default
returns-in_default c =
    let p = is_holder c.args.holder in
    same_is_alter p (less c.args.size) c.args.reserved.now.items _ (c.holder_index.ensures ∙ ap (position p) c.deref.ensures.value) c.in_default.is refl
