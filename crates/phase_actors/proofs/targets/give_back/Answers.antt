use Rattle.std.proofs.Common.{◌≡◌, ◌∙◌, length, sym, arith}
use Rattle.phase_actors.proofs.Actors.{back_none, back_step}
use Rattle.phase_actors.proofs.targets.give_back.Goals as goal

pub actors-preserved : goal.actors-preserved
actors-preserved g c = λ k.
    back_step _ k c.actors.actors.items c.pop.new.self.items c.in-Some.actor _ _ c.in-Some.ensures.items c.return_targets.ensures ∙ c.actors.invariant k

pub returns : goal.returns
returns g c = λ k.
    let none : length c.actors.actors.items ≡ 0 = omega (arith, c.in_default.ensures.cases.0, c.actors.actors.ok) in
    sym (back_none _ k c.actors.actors.items _ none) ∙ c.actors.invariant k
