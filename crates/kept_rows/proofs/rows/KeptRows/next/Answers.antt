use Rattle.std.proofs.Common.{rules, ◌≡◌, ◌≢◌, ◌<◌, ◌≤◌, ◌+◌, ◌-◌, ℕ, Bool, true, false, Option, Some, None, List, [], ◌∷◌, ◌++◌, length, get_or, set, sym, ap, ◌∙◌, subst, refl, arith}
use Rattle.queue_model.specs.declared.rows.RowState.TheVariants.{Available, Locked, Unlocked, Dequeued, Deleted}
use Rattle.kept_rows.specs.Rows.{kept_at, with_row, row_in, goods_in, less_deep}
use Rattle.acts_core.specs.Kept.{at_home}
use Rattle.kept_rows.proofs.Settling.{settles_row, settles_same}
use Rattle.kept_rows.proofs.Serving.{serves_got, serves_empty}
use Rattle.kept_rows.proofs.rows.KeptRows.next.Goals as goal

pub returns-in-Some : goal.returns-in-Some
returns-in-Some g c =
    let k = c.args.self.now in
    let f = c.in-Some.ensures.some in record {
      serves = ((kept_at k c.in-Some.row).slip.list, rw c.take_out.ensures.kept (serves_got g.O.Ranking.by_key k c.args.caller c.args.consumer c.in-Some.row (g.C.Freight.goods c.take_out.result) f c.take_out.ensures.came));
      settles = rw c.take_out.ensures.kept (settles_row k k.depth c.in-Some.row (Locked c.args.caller) None f.inside (λ e. absurd (cc)));
    }

pub returns-in-None : goal.returns-in-None
returns-in-None g c = record { serves = (0, serves_empty g.O.Ranking.by_key c.args.self.now c.args.caller c.args.consumer c.in-None.ensures.none); settles = settles_same c.args.self.now }
