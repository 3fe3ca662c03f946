use Rattle.std.proofs.Common.{rules, ◌≡◌, ◌≢◌, ◌<◌, ◌≤◌, ◌+◌, ◌-◌, ℕ, Bool, true, false, Option, Some, None, List, [], ◌∷◌, ◌++◌, length, get_or, set, sym, ap, ◌∙◌, subst, refl, arith}
use Rattle.queue_model.specs.declared.rows.RowState.TheVariants.{Available, Locked, Unlocked, Dequeued, Deleted}
use Rattle.kept_rows.specs.Rows.{kept_at, with_row, row_in, goods_in, less_deep}
use Rattle.acts_core.specs.Kept.{at_home}
use Rattle.kept_rows.proofs.Settling.{settles_row, settles_same}
use Rattle.kept_rows.proofs.Serving.{serves_delete}
use Rattle.kept_rows.proofs.Standing.{number_inside}
use Rattle.kept_rows.proofs.rows.KeptRows.delete.Goals as goal

pub change-requires : goal.change-requires
change-requires g c = let m = c.requires.may in record { row = number_inside c.args.self.now m.0 m.1 c.args.row m.2.0 m.2.1; fits = refl }

pub returns : goal.returns
returns g c =
    let m = c.requires.may in
    let k = c.args.self.now in
    record {
      serves = rw c.change.ensures.kept (serves_delete g.O.Ranking.by_key k c.args.caller c.args.row);
      settles = rw c.change.ensures.kept (settles_row k k.depth c.args.row Deleted None (number_inside k m.0 m.1 c.args.row m.2.0 m.2.1) (λ e. absurd (cc)));
    }
