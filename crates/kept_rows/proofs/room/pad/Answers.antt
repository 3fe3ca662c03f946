use Rattle.std.proofs.Common.{rules, ◌≡◌, ◌≢◌, ◌<◌, ◌≤◌, ◌+◌, ◌-◌, ℕ, Bool, true, false, Option, Some, None, List, [], ◌∷◌, ◌++◌, length, get_or, set, sym, ap, ◌∙◌, subst, refl, arith}
use Rattle.kept_rows.proofs.room.pad.Goals as goal

pub returns : goal.returns
returns c =
    let i = c.padding.invariant in
    let low = i.low in
    let end = c.padding-test.false in
    let len = c.len.ensures in
    let ok = c.padding.nodes.ok.0 in
    record { long = omega arith; same = i.same }
