use Rattle.std.proofs.Common.{rules, ◌≡◌, ◌≢◌, ◌<◌, ◌≤◌, ◌+◌, ◌-◌, ◌/◌, ℕ, Bool, true, false, Option, Some, None, List, [], ◌∷◌, ◌++◌, length, get_or, set, map, sym, ap, ◌∙◌, subst, refl, arith}
use Rattle.std.specs.List.{insert}
use Rattle.std.specs.Vec.{vec_len, vec_capacity}
use Rattle.acts_core.specs.Kept.{Kept}
use Rattle.lastval_core.specs.Lasts.{KeepsLast, key_at, StandsAt, BelongsAt}
use Rattle.lastval_core.specs.Fronts.{front}
use Rattle.lastval_core.specs.Places.{IsPlace}
use Rattle.lastval_core.proofs.Fronts.{front_none, front_all, search_inside, search_sorted, next_unkeyed, next_first, none_there, start_rows, start_apart}
use Rattle.lastval_core.proofs.Lasts.{lasts_spare}
use Rattle.lastval_core.proofs.queue.LastValue.grow.Goals as goal

pub invariant_of-self-2 : goal.invariant_of-self-2
invariant_of-self-2 g c =
    let kept = c.in_ok-make_room.ensures.ok in
    let inv = c.self.invariant.0 in
    let rows : length c.make_room.new.self.rows ≡ length c.self.inside.rows.rows = ap (λ (z : Kept). length z.rows) kept in
    let spare : c.make_room.new.self.spare ≡ c.args.rows = ap (λ (z : Kept). z.spare) kept in
    let all : c.in-Some.all ≡ vec_len c.self.inside.outdated + c.args.rows = search rules in
    let ok = c.self.inside.outdated.ok.0 in
    let long = inv.long in
    let marks = c.in_ok-reserve.ensures.ok in let marks_len = c.reserve.ensures.len in
    let lasts = c.in_ok-reserve-2.ensures.ok in (
      subst (λ (z : Kept × List ℕ × List Bool). KeepsLast z.0 z.1 z.2) (λ t. (sym kept t, sym c.reserve-2.ensures.items t, sym c.reserve.ensures.items t)) (lasts_spare c.self.inside.rows c.args.rows c.self.inside.lasts.items c.self.inside.outdated.items inv),
      record { lasts_fit = omega arith; marks_fit = omega arith },
    )
