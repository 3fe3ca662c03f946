use Rattle.std.proofs.Common.{rules, ◌≡◌, ◌≢◌, ◌<◌, ◌≤◌, ◌+◌, ◌-◌, ℕ, Bool, true, false, Option, Some, None, List, [], ◌∷◌, ◌++◌, length, get_or, set, sym, ap, ◌∙◌, subst, refl, arith}
use Rattle.queue_model.specs.declared.rows.RowState.TheVariants.{Available, Locked, Unlocked, Dequeued, Deleted}
use Rattle.kept_rows.specs.Rows.{kept_at, with_row, row_in, goods_in, less_deep}
use Rattle.acts_core.specs.Kept.{at_home}
use Rattle.kept_rows.proofs.Settling.{settles_row, settles_same}
use Rattle.kept_rows.proofs.Serving.{serves_unlock, handed_fits}
use Rattle.kept_rows.proofs.rows.KeptRows.unlock.Goals as goal

pub change-requires : goal.change-requires
change-requires g c =
    let m = c.requires.may in
    let f = handed_fits g.O.Ranking.by_key c.args.self.now c.args.caller c.args.row m.0 (g.C.Freight.goods c.args.cargo) m.1 m.2 in
    record { row = f.0; fits = (refl, f.1, f.2) }

pub returns : goal.returns
returns g c =
    let m = c.requires.may in
    let k = c.args.self.now in
    let load = g.C.Freight.goods c.args.cargo in
    let f = handed_fits g.O.Ranking.by_key c.args.self.now c.args.caller c.args.row m.0 (g.C.Freight.goods c.args.cargo) m.1 m.2 in
    record {
      serves = rw c.change.ensures.kept (serves_unlock g.O.Ranking.by_key k c.args.caller c.args.row load);
      settles = rw c.change.ensures.kept (settles_row k k.depth c.args.row (Unlocked c.args.caller) (Some (goods_in load)) f.0 (λ e. absurd (cc)));
    }
