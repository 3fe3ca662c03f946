use Rattle.std.proofs.Common.{rules, ◌≡◌, ◌≢◌, ◌<◌, ◌≤◌, ◌+◌, ◌-◌, ◌/◌, ℕ, Bool, true, false, Option, Some, None, List, [], ◌∷◌, ◌++◌, length, get_or, set, map, sym, ap, ◌∙◌, subst, refl, arith}
use Rattle.std.specs.List.{insert}
use Rattle.std.specs.Vec.{vec_len, vec_capacity}
use Rattle.acts_core.specs.Kept.{Kept}
use Rattle.lastval_core.specs.Lasts.{KeepsLast, key_at, StandsAt, BelongsAt}
use Rattle.lastval_core.specs.Fronts.{front}
use Rattle.lastval_core.specs.Places.{IsPlace}
use Rattle.lastval_core.proofs.Fronts.{front_none, front_all, search_inside, search_sorted, next_unkeyed, next_first, none_there, start_rows, start_apart}
use Rattle.lastval_core.proofs.Lasts.{lasts_spare}
use Rattle.lastval_core.proofs.making.index_rows.Goals as goal

pub indexing-init : goal.indexing-init
indexing-init g c =
    let none : vec_len c.in_ok-marks.marks ≡ 0 = c.in_ok-marks.ensures.len in
    record {
      low = omega arith;
      keeps = subst (λ (n : ℕ). KeepsLast (front c.args.rows.now n) c.in_ok-lasts.lasts.items c.in_ok-marks.marks.items) (sym none)
          (front_none c.args.rows.now c.in_ok-lasts.lasts.items c.in_ok-marks.marks.items c.in_ok-lasts.ensures.items c.in_ok-marks.ensures.items);
      lasts_fit = c.in_ok-lasts.ensures.capacity;
      marks_fit = c.in_ok-marks.ensures.capacity;
    }
