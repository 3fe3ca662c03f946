use Rattle.std.proofs.Common.{◌∙◌, ap, sym, cond, refl, Some}
use Rattle.std.specs.List.{position}
use Rattle.std.proofs.lemmas.Bool.{lt-ltb, le-ltb}
use Rattle.queue_model.specs.State.{is_bell}
use Rattle.queue_model.specs.Table.{earlier}
use Rattle.queue_model.proofs.Positions.{written_is_alter, kept_is_alter, pushed_is_alter}
use Rattle.queue_model.proofs.field_lists.ring.Goals as goal

pub returns-then-bell-index : goal.returns-then-bell-index
returns-then-bell-index c =
    let p = is_bell c.args.bell.consumer c.args.bell.list in
    let v = c.index.result.now in
    written_is_alter p (earlier c.args.bell) c.args.bells.now.items _ c.in-Some.index v _ (c.bell_index.ensures ∙ ap (position p) c.deref.ensures.value) c.in-Some.is
    (ap (λ w. earlier c.args.bell (Some w)) (sym c.index.ensures) ∙ ap (λ b. cond b (Some c.args.bell) (Some v)) (lt-ltb _ _ c.if-bell-index.true))

pub returns-else-bell-index : goal.returns-else-bell-index
returns-else-bell-index c =
    let p = is_bell c.args.bell.consumer c.args.bell.list in
    let v = c.index.result.now in
    kept_is_alter p (earlier c.args.bell) c.args.bells.now.items _ c.in-Some.index v (c.bell_index.ensures ∙ ap (position p) c.deref.ensures.value) c.in-Some.is
    (ap (λ w. earlier c.args.bell (Some w)) (sym c.index.ensures) ∙ ap (λ b. cond b (Some c.args.bell) (Some v)) (le-ltb _ _ c.if-bell-index.false) ∙ ap Some c.index.ensures)

pub returns-in-None : goal.returns-in-None
returns-in-None c =
    let p = is_bell c.args.bell.consumer c.args.bell.list in
    c.push_reserved.ensures.items ∙ pushed_is_alter p (earlier c.args.bell) c.args.bells.now.items _ _ (c.bell_index.ensures ∙ ap (position p) c.deref.ensures.value) c.in-None.is refl
