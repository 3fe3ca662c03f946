use Rattle.std.proofs.Common.{rules, ◌≡◌, ◌≢◌, ◌<◌, ◌≤◌, ◌+◌, ◌-◌, ℕ, Option, Some, None, List, [], ◌∷◌, ◌++◌, length, get_or, set, sym, ap, ◌∙◌, subst, refl, arith}
use Rattle.kept_rows.proofs.Serving.{give_fits, serves_give_back}
use Rattle.kept_rows.proofs.Settling.{settles_depth}
use Rattle.kept_rows.specs.Rows.{less_deep}
use Rattle.kept_rows.proofs.rows.KeptRows.give_back.Goals as goal

pub lower-requires : goal.lower-requires
lower-requires g c = let m = c.requires.may in let f = give_fits c.args.self.now m.0 c.args.caller c.args.size m.1 m.2 in record { entry = f.0; bytes = f.1 }

pub returns : goal.returns
returns g c = record {
  serves = rw c.lower.ensures (serves_give_back g.O.Ranking.by_key c.args.self.now c.args.caller c.args.size);
  settles = rw c.lower.ensures (settles_depth c.args.self.now (less_deep c.args.self.now.depth c.args.size));
}
