use Rattle.std.proofs.Common.{rules, ◌≡◌, ◌≢◌, ◌<◌, ◌≤◌, ◌+◌, ◌-◌, ℕ, Bool, true, false, Option, Some, None, IsTrue, List, [], ◌∷◌, ◌++◌, length, get_or, set, sym, ap, ◌∙◌, subst, refl, arith}
use Rattle.queue_model.specs.declared.rows.RowState.TheVariants.{Available, Locked, Unlocked, Dequeued, Deleted}
use Rattle.kept_rows.specs.Rows.{kept_at, with_row, row_in, goods_in, less_deep}
use Rattle.acts_core.specs.Kept.{at_home}
use Rattle.std.specs.Option.{option_map}
use Rattle.kept_rows.specs.Rows.{CameOut}
use Rattle.kept_rows.proofs.rows.KeptRows.take_out.Goals as goal

pub unreachable-requires : goal.unreachable-requires
unreachable-requires g c =
    let away : at_home (kept_at c.args.self.now c.args.row).state ≡ false = subst (λ (o : Option g.row.C.Denot). CameOut (kept_at c.args.self.now c.args.row) (option_map g.C.Freight.goods o)) c.in-None.is c.change.ensures.came in
    let home : at_home (kept_at c.args.self.now c.args.row).state ≡ true = c.requires.home in
    let bad : false ≡ true = sym away ∙ home in
    absurd (cc)

pub returns : goal.returns
returns g c = record {
  kept = c.change.ensures.kept;
  came = subst (λ (o : Option g.row.C.Denot). CameOut (kept_at c.args.self.now c.args.row) (option_map g.C.Freight.goods o)) c.in-Some.is c.change.ensures.came;
}
