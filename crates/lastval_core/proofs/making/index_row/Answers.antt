use Rattle.std.proofs.Common.{rules, ◌≡◌, ◌≢◌, ◌<◌, ◌≤◌, ◌+◌, ◌-◌, ◌/◌, ℕ, Bool, true, false, Option, Some, None, List, [], ◌∷◌, ◌++◌, length, get_or, set, map, sym, ap, ◌∙◌, subst, refl, arith}
use Rattle.std.specs.List.{insert}
use Rattle.std.specs.Vec.{vec_len, vec_capacity}
use Rattle.acts_core.specs.Kept.{Kept}
use Rattle.lastval_core.specs.Lasts.{KeepsLast, key_at, StandsAt, BelongsAt}
use Rattle.lastval_core.specs.Fronts.{front}
use Rattle.lastval_core.specs.Places.{IsPlace}
use Rattle.lastval_core.proofs.Fronts.{front_none, front_all, search_inside, search_sorted, next_unkeyed, next_first, none_there, start_rows, start_apart}
use Rattle.lastval_core.proofs.Lasts.{lasts_spare}
use Rattle.lastval_core.proofs.making.index_row.Goals as goal

pub returns-in-Some-Before-clause-keeps : goal.returns-in-Some-Before-clause-keeps
returns-in-Some-Before-clause-keeps g c =
    let key : c.key.result.now ≡ key_at c.args.rows.now (vec_len c.args.marks.now) = c.key.ensures ∙ ap (key_at c.args.rows.now) c.len-row.ensures in
    let place = rw c.in-Some-Before.field-0-is at c.in-Some-Before.ensures.some in
    let some : key_at c.args.rows.now (vec_len c.args.marks.now) ≢ None = λ none. place.0 (key ∙ none) in
    let there : BelongsAt c.args.rows.now c.args.lasts.now.items (key_at c.args.rows.now (vec_len c.args.marks.now)) c.in-Some-Before.index = subst (λ (z : List ℕ × Option (List ℕ)). BelongsAt c.args.rows.now z.0 z.1 c.in-Some-Before.index) (λ t. (c.deref.ensures.value t, key t)) place.1 in
    let ins : c.insert_row.new.lasts.items ≡ insert c.args.lasts.now.items c.in-Some-Before.index (vec_len c.args.marks.now) = c.insert_row.ensures.items ∙ ap (insert c.args.lasts.now.items c.in-Some-Before.index) c.len-row.ensures in
    subst (λ (z : List ℕ × List Bool). KeepsLast (front c.args.rows.now (vec_len c.push_reserved.new.self)) z.0 z.1) (λ t. (sym ins t, sym c.push_reserved.ensures.items t))
    (next_first c.args.rows.now (vec_len c.args.marks.now) c.args.lasts.now.items c.args.marks.now.items c.requires.inside c.requires.keeps (vec_len c.push_reserved.new.self) c.in-Some-Before.index c.push_reserved.ensures.len c.requires.apart some there)

pub returns-in-None-clause-keeps : goal.returns-in-None-clause-keeps
returns-in-None-clause-keeps g c =
    let key : c.key.result.now ≡ key_at c.args.rows.now (vec_len c.args.marks.now) = c.key.ensures ∙ ap (key_at c.args.rows.now) c.len-row.ensures in
    subst (λ (z : List Bool). KeepsLast (front c.args.rows.now (vec_len c.push_reserved.new.self)) c.args.lasts.now.items z) (sym c.push_reserved.ensures.items)
    (next_unkeyed c.args.rows.now (vec_len c.args.marks.now) c.args.lasts.now.items c.args.marks.now.items c.requires.inside c.requires.keeps (vec_len c.push_reserved.new.self) c.push_reserved.ensures.len c.requires.apart (sym key ∙ c.in-None.ensures.none))
