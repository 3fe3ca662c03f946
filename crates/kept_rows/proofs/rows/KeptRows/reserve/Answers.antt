use Rattle.std.proofs.Common.{rules, ◌≡◌, ◌≢◌, ◌<◌, ◌≤◌, ◌+◌, ◌-◌, ℕ, Option, Some, None, List, [], ◌∷◌, ◌++◌, length, get_or, set, sym, ap, ◌∙◌, subst, refl, arith}
use Rattle.kept_rows.proofs.Serving.{reserve_fits, serves_reserve}
use Rattle.kept_rows.proofs.Settling.{settles_depth}
use Rattle.kept_rows.specs.Rows.{more_deep}
use Rattle.kept_rows.proofs.rows.KeptRows.reserve.Goals as goal

pub raise-requires : goal.raise-requires
raise-requires g c = let f = reserve_fits c.args.self.now c.args.caller c.args.size c.requires.may in record { few = f.0; small = f.1; size = f.2 }

pub returns : goal.returns
returns g c = record {
  serves = rw (c.raise.ensures, c.depth-before.ensures) (serves_reserve g.O.Ranking.by_key c.args.self.now c.args.caller c.args.size);
  settles = rw c.raise.ensures (settles_depth c.args.self.now (more_deep c.args.self.now.depth c.args.size));
}
