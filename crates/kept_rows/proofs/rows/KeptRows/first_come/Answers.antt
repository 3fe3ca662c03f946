use Rattle.std.proofs.Common.{rules, ◌≡◌, ◌≢◌, ◌<◌, ◌≤◌, ◌+◌, ◌-◌, ℕ, Bool, true, false, Option, Some, None, List, [], ◌∷◌, ◌++◌, length, get_or, set, sym, ap, ◌∙◌, subst, refl, arith}
use Rattle.queue_model.specs.declared.rows.RowState.TheVariants.{Available, Locked, Unlocked, Dequeued, Deleted}
use Rattle.queue_model.specs.declared.queues.Depth.{Depth}
use Rattle.queue_model.specs.declared.rows.RowState.{RowState}
use Rattle.queue_model.specs.declared.rows.Slip.{Slip}
use Rattle.std.specs.Option.{option_map}
use Rattle.row_order.specs.declared.slots.Slot.{Slot}
use Rattle.row_order.specs.Order.{ranks}
use Rattle.row_order.specs.Tree.{Crowned, LeafSet}
use Rattle.acts_core.specs.Kept.{Kept, KeptRow, Goods}
use Rattle.kept_rows.specs.Rows.{kept_at, with_row, row_in, goods_in, Fitting, CameOut}
use Rattle.kept_rows.specs.Keeping.{kept_of, Keeps, Carries, Names}
use Rattle.std.proofs.Common.{IfSome, IfNone}
use Rattle.kept_rows.specs.Rows.{Comes, FirstOf, NoneOf, IsFreeTo, IsAvailable, IsNamed}
use Rattle.kept_rows.proofs.Keeping.{if_some, if_none, first_old, none_old}
use Rattle.row_order.specs.Tree.{Leftmost}
use Rattle.kept_rows.proofs.rows.KeptRows.first_come.Goals as goal

pub returns : goal.returns
returns g c =
    let old = c.self.inside in
    let f : Leftmost old.width old.nodes.items c.leftmost.result = subst (λ (z : List ℕ). Leftmost old.width z c.leftmost.result) c.deref.ensures.value c.leftmost.ensures in
    let room = c.self.invariant.1.leaves in
    let ok = old.slots.ok.0 in
    let wide : length old.slots.items ≤ old.width = omega arith in
    record {
      some = if_some c.row_of.result (λ r. c.leftmost.result ≡ r + 1) (FirstOf c.args.self.now IsAvailable (λ x y. x < y))
          (λ r e. subst (λ (k : Kept). FirstOf k IsAvailable (λ x y. x < y) r) c.self.view_is (first_old g.C.Freight.goods g.O.Ranking.by_key old.slots.items old.nodes.items old.width c.self.invariant.0 old.depth old.spare c.leftmost.result r wide f e))
          c.row_of.ensures.some;
      none = if_none c.row_of.result (c.leftmost.result ≡ 0) (NoneOf c.args.self.now IsAvailable)
          (λ e. subst (λ (k : Kept). NoneOf k IsAvailable) c.self.view_is (none_old g.C.Freight.goods g.O.Ranking.by_key old.slots.items old.nodes.items old.width c.self.invariant.0 old.depth old.spare c.leftmost.result wide f e))
          c.row_of.ensures.none;
    }
