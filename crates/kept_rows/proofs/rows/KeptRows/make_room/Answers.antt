use Rattle.std.proofs.Common.{rules, ◌≡◌, ◌≢◌, ◌<◌, ◌≤◌, ◌+◌, ◌-◌, ℕ, Bool, true, false, Option, Some, None, List, [], ◌∷◌, ◌++◌, length, get_or, set, sym, ap, ◌∙◌, subst, refl, arith}
use Rattle.std.specs.Vec.{vec_len}
use Rattle.row_order.specs.declared.slots.Slot.{Slot}
use Rattle.row_order.specs.Order.{ranks}
use Rattle.kept_rows.specs.Keeping.{Keeps, Widened}
use Rattle.kept_rows.proofs.Keeping.{keeps_widened}
use Rattle.kept_rows.proofs.rows.KeptRows.make_room.Goals as goal

pub invariant_of-self-2 : goal.invariant_of-self-2
invariant_of-self-2 g c =
    let old = c.self.inside in
    let inv = c.self.invariant in
    let w = c.in_ok-self-inside.ensures.ok in
    let kept : Keeps g.C.Freight.goods g.O.Ranking.by_key c.reserve.new.self.items old.nodes.items old.width = subst (λ (z : List (Slot g.row.C.Denot)). Keeps g.C.Freight.goods g.O.Ranking.by_key z old.nodes.items old.width) (sym c.reserve.ensures.items) inv.0 in
    let wide : Widened (ranks g.O.Ranking.by_key c.reserve.new.self.items) (length c.reserve.new.self.items) old.width old.nodes.items c.in_ok-self-inside.field-0 c.widen_for.new.nodes.items =
    subst (λ (z : List (Slot g.row.C.Denot)). Widened (ranks g.O.Ranking.by_key z) (length z) old.width old.nodes.items c.in_ok-self-inside.field-0 c.widen_for.new.nodes.items) c.deref.ensures.value w.1 in
    let all : c.in-Some.all ≡ vec_len old.slots + c.args.rows = search rules in
    let more = w.0 in
    let slots = c.in_ok-reserve.ensures.ok in let len = c.reserve.ensures.len in
    let order = c.in_ok-reserve-2.ensures.ok in let order_len = c.reserve-2.ensures.len in let order_none = inv.1.order_fits.0 in
    let rest = c.in_ok-reserve-3.ensures.ok in let rest_len = c.reserve-3.ensures.len in let rest_none = inv.1.rest_fits.0 in (
      keeps_widened g.C.Freight.goods g.O.Ranking.by_key c.reserve.new.self.items old.nodes.items c.widen_for.new.nodes.items old.width c.in_ok-self-inside.field-0 kept wide,
      record { leaves = omega arith; slots_fit = omega arith; order_fits = (omega arith, omega arith); rest_fits = (omega arith, omega arith) },
    )
