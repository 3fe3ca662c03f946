use Rattle.std.proofs.Common.{rules, ◌≡◌, ◌≢◌, ◌<◌, ◌≤◌, ◌+◌, ◌-◌, ℕ, Bool, true, false, Option, Some, None, List, [], ◌∷◌, ◌++◌, length, get_or, set, sym, ap, ◌∙◌, subst, refl, arith}
use Rattle.kept_rows.proofs.Settling.{settles_row, settles_same}
use Rattle.kept_rows.proofs.Serving.{serves_named}
use Rattle.kept_rows.proofs.rows.KeptRows.find.Goals as goal

pub returns : goal.returns
returns g c = record { serves = serves_named g.O.Ranking.by_key c.args.self.now c.args.caller c.args.id c.named.result c.named.ensures.some c.named.ensures.none; settles = settles_same c.args.self.now }
