use Rattle.std.proofs.Common.{rules, ◌≡◌, ◌≢◌, ◌<◌, ◌≤◌, ◌+◌, ◌-◌, ◌/◌, ℕ, Bool, true, false, Option, Some, None, List, [], ◌∷◌, ◌++◌, length, get_or, set, map, sym, ap, ◌∙◌, subst, refl, arith}
use Rattle.std.specs.List.{insert}
use Rattle.std.specs.Vec.{vec_len, vec_capacity}
use Rattle.acts_core.specs.Kept.{Kept}
use Rattle.lastval_core.specs.Lasts.{KeepsLast, key_at, StandsAt, BelongsAt}
use Rattle.lastval_core.specs.Fronts.{front}
use Rattle.lastval_core.specs.Places.{IsPlace}
use Rattle.lastval_core.proofs.Fronts.{front_none, front_all, search_inside, search_sorted, next_unkeyed, next_first, none_there, start_rows, start_apart}
use Rattle.lastval_core.proofs.Lasts.{lasts_spare}
use Rattle.lastval_core.proofs.queue.LastValue.make.Goals as goal

pub index_rows-requires-clause-apart : goal.index_rows-requires-clause-apart
index_rows-requires-clause-apart g c = start_apart g.C.Freight.goods c.args.start.items c.in_ok-rows.rows c.in_ok-rows.ensures.entered.rows c.requires.keys
