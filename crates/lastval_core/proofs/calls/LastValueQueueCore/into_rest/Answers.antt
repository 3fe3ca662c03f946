use Rattle.std.proofs.Common.{rules, ◌≡◌, ◌≢◌, ◌<◌, ◌≤◌, ◌+◌, ◌-◌, ◌/◌, ℕ, Bool, true, false, Option, Some, None, List, [], ◌∷◌, ◌++◌, length, get_or, set, map, sym, ap, ◌∙◌, subst, refl, arith}
use Rattle.acts_core.specs.Kept.{Kept, Stands}
use Rattle.acts_core.specs.Rest.{left_of}
use Rattle.lastval_core.proofs.Releasing.{rests_last}
use Rattle.lastval_core.proofs.calls.LastValueQueueCore.into_rest.Goals as goal

pub returns : goal.returns
returns g c = record { rest = λ q st. rests_last c.self.inside.rows q c.self.inside.lasts.items c.self.inside.outdated.items (map (left_of g.C.Cargo.load) c.into_rest.result.items) c.self.invariant.0 (subst (λ (z : Kept). Stands z q) (sym c.self.view_is) st) c.into_rest.ensures.rest }
