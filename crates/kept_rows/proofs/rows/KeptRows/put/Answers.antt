use Rattle.std.proofs.Common.{rules, ◌≡◌, ◌≢◌, ◌<◌, ◌≤◌, ◌+◌, ◌-◌, ℕ, Bool, true, false, Option, Some, None, List, [], ◌∷◌, ◌++◌, length, get_or, set, sym, ap, ◌∙◌, subst, refl, arith}
use Rattle.queue_model.specs.declared.rows.RowState.TheVariants.{Available, Locked, Unlocked, Dequeued, Deleted}
use Rattle.kept_rows.specs.Rows.{kept_at, with_row, row_in, goods_in, less_deep}
use Rattle.acts_core.specs.Kept.{at_home}
use Rattle.kept_rows.proofs.Serving.{serves_put}
use Rattle.kept_rows.proofs.rows.KeptRows.put.Goals as goal

pub push-requires : goal.push-requires
push-requires g c = let e = c.requires.may.2 in record { spare = c.requires.spare; fits = (refl, sym e.id, sym e.size) }

pub returns : goal.returns
returns g c =
    let k = c.args.self.now in
    let load = g.C.Freight.goods c.args.cargo in
    record {
      row = c.push.ensures.row;
      spare = c.push.ensures.spare;
      kept = c.push.ensures.kept;
      serves = rw (c.push.ensures.row, c.push.ensures.kept) (serves_put k c.args.caller c.push.new.self.spare c.args.slip load c.push.ensures.spare);
    }
