use Rattle.std.proofs.Common.{◌≡◌, ◌+◌, ℕ, suc, sym, subst, arith}
use Rattle.queue_model.specs.declared.steps.Node.{Node}
use Rattle.queue_model.specs.State.{list_at}
use Rattle.queue_model.proofs.SoundSteps.{list_found}
use Rattle.entry_table.specs.Passes.{state}
use Rattle.entry_table.specs.Plays.{IsKnown, list_at_node}
use Rattle.scavenge_core.specs.Skips.{StepsOver, stop_at}
use Rattle.scavenge_core.proofs.Noting.{list_of_row, steps_over_on}
use Rattle.scavenge_core.proofs.nodes.step_over.Goals as goal

pub returns-in-Row-clause-steps : goal.returns-in-Row-clause-steps
returns-in-Row-clause-steps g c =
    let old = c.args.pass.now in
    let mid = c.list_of-list.new.pass in
    let new = c.step_behind-in-Row.new.pass in
    let row = c.in-Row.row in
    let result = c.step_behind-in-Row.result in
    let known = subst (IsKnown (state old)) c.in-Row.is c.requires.known in
    let looked = c.list_of-list.ensures.looks in
    let list = list_of_row old mid c.list_of-list.result row known.0 looked known.1 c.list_of-list.ensures.there in
    let next : row + 1 ≡ suc row = omega arith in
    let steps = subst (λ (z : ℕ × ℕ). StepsOver mid new z.0 z.1 result) (λ i. (list i, next i)) c.step_behind-in-Row.ensures.steps in
    subst (λ (node : Node). StepsOver old new (list_at_node (state old) node) (stop_at node) result) (sym c.in-Row.is)
    (steps_over_on old mid new (list_at (state old) row) (suc row) (known.0, known.1, sym (list_found (state old) row known.0 known.1)) looked result steps)
