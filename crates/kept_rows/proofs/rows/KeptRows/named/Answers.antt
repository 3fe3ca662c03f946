use Rattle.std.proofs.Common.{rules, ◌≡◌, ◌≢◌, ◌<◌, ◌≤◌, ◌+◌, ◌-◌, ℕ, Bool, true, false, Option, Some, None, List, [], ◌∷◌, ◌++◌, length, get_or, set, sym, ap, ◌∙◌, subst, refl, arith}
use Rattle.queue_model.specs.declared.rows.RowState.TheVariants.{Available, Locked, Unlocked, Dequeued, Deleted}
use Rattle.queue_model.specs.declared.queues.Depth.{Depth}
use Rattle.queue_model.specs.declared.rows.RowState.{RowState}
use Rattle.queue_model.specs.declared.rows.Slip.{Slip}
use Rattle.std.specs.Option.{option_map}
use Rattle.row_order.specs.declared.slots.Slot.{Slot}
use Rattle.row_order.specs.Order.{ranks}
use Rattle.row_order.specs.Tree.{Crowned, LeafSet}
use Rattle.acts_core.specs.Kept.{Kept, KeptRow, Goods}
use Rattle.kept_rows.specs.Rows.{kept_at, with_row, row_in, goods_in, Fitting, CameOut}
use Rattle.kept_rows.specs.Keeping.{kept_of, Keeps, Carries, Names}
use Rattle.std.proofs.Common.{IfSome, IfNone}
use Rattle.kept_rows.specs.Rows.{Comes, FirstOf, NoneOf, IsFreeTo, IsAvailable, IsNamed}
use Rattle.kept_rows.proofs.Keeping.{if_some, if_none, get_or_any}
use Rattle.kept_rows.specs.Keeping.{FirstNamed}
use Rattle.kept_rows.proofs.Finding.{named_first, named_nowhere}
use Rattle.kept_rows.proofs.rows.KeptRows.named.Goals as goal

pub returns : goal.returns
returns g c =
    let old = c.self.inside in
    let f : FirstNamed (ranks g.O.Ranking.by_key old.slots.items) old.slots.items c.args.id (length old.slots.items) c.find_named.result =
    subst (λ (z : List (Slot g.row.C.Denot)). FirstNamed (ranks g.O.Ranking.by_key z) z c.args.id (length z) c.find_named.result) c.deref.ensures.value c.find_named.ensures in
    record {
      some = if_some c.row_of.result (λ r. c.find_named.result ≡ r + 1) (FirstOf c.args.self.now (IsNamed c.args.id) (Comes g.O.Ranking.by_key c.args.self.now))
          (λ r e. subst (λ (k : Kept). FirstOf k (IsNamed c.args.id) (Comes g.O.Ranking.by_key k) r) c.self.view_is (named_first g.C.Freight.goods g.O.Ranking.by_key old.slots.items old.depth old.spare c.args.id c.find_named.result r f e))
          c.row_of.ensures.some;
      none = if_none c.row_of.result (c.find_named.result ≡ 0) (NoneOf c.args.self.now (IsNamed c.args.id))
          (λ e. subst (λ (k : Kept). NoneOf k (IsNamed c.args.id)) c.self.view_is (named_nowhere g.C.Freight.goods g.O.Ranking.by_key old.slots.items old.depth old.spare c.args.id c.find_named.result f e))
          c.row_of.ensures.none;
    }
