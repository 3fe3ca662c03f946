use Rattle.std.proofs.Common.{◌∙◌, ap, sym, subst, IsTrue, ◌↔◌, unwrap_or, arith}
use Rattle.std.specs.List.{find}
use Rattle.queue_model.specs.declared.queues.Reservation.{Reservation}
use Rattle.queue_model.specs.State.{is_holder, nothing}
use Rattle.queue_model.specs.Table.{CanGive}
use Rattle.queue_model.proofs.Positions.{found_is_at, find_none}
use Rattle.queue_model.proofs.field_lists.can_give.Goals as goal

pub returns-in-Some : goal.returns-in-Some
returns-in-Some c =
    let found = found_is_at (is_holder c.args.holder) c.args.reserved.now _ c.in-Some.index (record { holder = 0; entries = 0; bytes = 0 }) c.holder_index.ensures c.in-Some.is in
    subst (λ (v : Reservation). IsTrue c.can_give.result ↔ CanGive v c.args.size) (sym (ap (λ o. unwrap_or o (nothing c.args.holder)) found)) c.can_give.ensures

pub returns-in-None : goal.returns-in-None
returns-in-None c =
    let lost = find_none (is_holder c.args.holder) c.args.reserved.now (sym c.holder_index.ensures ∙ c.in-None.is) in
    let none = ap (λ o. unwrap_or o (nothing c.args.holder)) lost in
    (λ e. absurd (cc), λ (h : CanGive (unwrap_or (find (is_holder c.args.holder) c.args.reserved.now) (nothing c.args.holder)) c.args.size). absurd (let e = h.entry in omega (arith, ap (λ (v : Reservation). v.entries) none, h.entry)))
