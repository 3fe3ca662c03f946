use Rattle.std.proofs.Common.{rules, ◌≡◌, ◌≢◌, ◌<◌, ◌≤◌, ◌+◌, ◌-◌, ◌/◌, ℕ, Bool, true, false, Option, Some, None, List, [], ◌∷◌, ◌++◌, length, get_or, set, sym, ap, ◌∙◌, subst, refl, arith}
use Rattle.std.specs.List.{insert}
use Rattle.acts_core.specs.Kept.{Kept}
use Rattle.acts_core.specs.Load.{Load}
use Rattle.lastval_core.specs.Lasts.{KeepsLast, key_at}
use Rattle.lastval_core.proofs.Coming.{Came, lasts_unkeyed, lasts_fresh}
use Rattle.lastval_core.proofs.Displacing.{came_new, none_of_key, no_key, served_none}
use Rattle.lastval_core.proofs.entering.enter_unkeyed.Goals as goal

pub returns : goal.returns
returns g c =
    let k = c.args.rows.now in
    let j = c.put-row.new.self in
    let load = g.C.Freight.goods c.args.cargo in
    let l = c.requires.keeps in
    let came : Came k j c.args.slip.key = subst (λ (z : Kept). Came c.args.rows.now z c.args.slip.key) (sym c.put-row.ensures.kept) (came_new c.args.rows.now c.put-row.new.self.spare c.args.slip load) in
    let long = came.long in
    let spare = c.put-row.ensures.spare in
    let cap = c.push_reserved.ensures.capacity in
    let a = c.requires.room.lasts_fit in
    let b = c.requires.room.marks_fit in
    record {
      serves = served_none k j c.args.caller c.put-row.result c.args.slip load (λ q st. none_of_key k c.args.lasts.now.items c.args.outdated.now.items l q st c.args.slip.key (λ r m same some free. some c.requires.key)) c.put-row.ensures.serves;
      keeps = subst (λ (z : List Bool). KeepsLast j c.args.lasts.now.items z) (sym c.push_reserved.ensures.items)
          (lasts_unkeyed k j c.args.slip.key came (λ r m some same. some (sym same ∙ c.requires.key)) c.args.lasts.now.items c.args.outdated.now.items c.requires.key l);
      room = record { lasts_fit = omega arith; marks_fit = omega arith };
    }
