use Rattle.std.proofs.Common.{◌∙◌, ◌++◌, append-nil, ap, arith, map, sym}
use Rattle.std.proofs.Math.ListN.{drop_of_length-le}
use Rattle.broker_top.proofs.Names.{actors_named}
use Rattle.broker_top.proofs.phases.actor_names.Goals as goal

pub returns : goal.returns
returns c =
    let all = c.as_slice-actors.result.now in
    let names = c.actors.names.items in
    let rest = drop_of_length-le all {i = c.actors.actor-index} (omega (arith, c.actors-test.false)) in
    let whole = sym (append-nil names) ∙ sym (ap (λ xs. names ++ map (λ a. a.0) xs) rest) ∙ c.actors.invariant.names in
    rw c.as_slice-actors.ensures.value at (whole ∙ actors_named all)
