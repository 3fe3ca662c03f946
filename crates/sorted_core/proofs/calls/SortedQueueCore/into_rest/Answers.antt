use Rattle.std.proofs.Common.{◌≡◌, ◌<◌, ℕ, Bool, true, false, List, map, refl, subst}
use Rattle.acts_core.specs.Kept.{Kept}
use Rattle.acts_core.specs.Rest.{left_of}
use Rattle.kept_rows.specs.Resting.{RestsOf}
use Rattle.kept_rows.proofs.Resting.{are_rests}
use Rattle.sorted_core.proofs.calls.SortedQueueCore.into_rest.Goals as goal

pub returns : goal.returns
returns g c =
    let rest : RestsOf true c.args.self (λ r. false) (map (left_of g.C.Cargo.load) c.into_rest.result.items) = subst (λ (k : Kept). RestsOf true k (λ r. false) (map (left_of g.C.Cargo.load) c.into_rest.result.items)) c.self.view_is c.into_rest.ensures.rest in
    record { rest = λ q st. are_rests true c.args.self q st (λ r. false) (map (left_of g.C.Cargo.load) c.into_rest.result.items) rest (λ r l. refl) }
