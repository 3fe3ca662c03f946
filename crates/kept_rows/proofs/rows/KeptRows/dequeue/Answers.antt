use Rattle.std.proofs.Common.{rules, ◌≡◌, ◌≢◌, ◌<◌, ◌≤◌, ◌+◌, ◌-◌, ℕ, Bool, true, false, Option, Some, None, List, [], ◌∷◌, ◌++◌, length, get_or, set, sym, ap, ◌∙◌, subst, refl, arith}
use Rattle.queue_model.specs.declared.rows.RowState.TheVariants.{Available, Locked, Unlocked, Dequeued, Deleted}
use Rattle.kept_rows.specs.Rows.{kept_at, with_row, row_in, goods_in, less_deep}
use Rattle.acts_core.specs.Kept.{at_home}
use Rattle.kept_rows.proofs.Settling.{settles_row, settles_same}
use Rattle.kept_rows.proofs.Serving.{serves_dequeue, dequeue_fits}
use Rattle.kept_rows.proofs.rows.KeptRows.dequeue.Goals as goal

pub size-size-requires : goal.size-size-requires
size-size-requires g c = (dequeue_fits c.args.self.now c.args.caller c.args.row c.requires.may).0

pub change-requires : goal.change-requires
change-requires g c = record { row = (dequeue_fits c.args.self.now c.args.caller c.args.row c.requires.may).0; fits = refl }

pub lower-requires : goal.lower-requires
lower-requires g c =
    let f = dequeue_fits c.args.self.now c.args.caller c.args.row c.requires.may in
    record { entry = rw c.change.ensures.kept f.1; bytes = rw (c.change.ensures.kept, c.size-size.ensures) f.2 }

pub returns : goal.returns
returns g c =
    let k = c.args.self.now in
    let f = dequeue_fits k c.args.caller c.args.row c.requires.may in
    record {
      serves = ((kept_at k c.args.row).slip.size, rw (c.lower.ensures, c.size-size.ensures, c.change.ensures.kept) (serves_dequeue g.O.Ranking.by_key k c.args.caller c.args.row));
      settles = rw (c.lower.ensures, c.size-size.ensures, c.change.ensures.kept) (settles_row k (less_deep k.depth (kept_at k c.args.row).slip.size) c.args.row Dequeued None f.0 (λ e. absurd (cc)));
    }
