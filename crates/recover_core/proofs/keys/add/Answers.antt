use Rattle.std.proofs.Common.{true, cond, ◌∙◌, sym}
use Rattle.recover_core.specs.Passed.{has, is_same}
use Rattle.recover_core.proofs.KeySets.{at_is, has_is, or_cond}
use Rattle.recover_core.proofs.keys.add.Goals as goal
use Rattle.recover_core.proofs.keys.add.Goals.{in-Ok, in-Err}

pub returns : goal.returns
returns c =
    elim c.match-insert.branch [
      | in-Ok w ↦ rw w.result-is (λ k. sym (has_is c.insert.new.self k) ∙ w.in-Ok.ensures.updates.0 k ∙ (λ i. cond (at_is c.args.key k i) true (has_is c.args.gone.now k i)) ∙ or_cond (is_same c.args.key k) (has c.args.gone.now k))
      | in-Err w ↦ rw w.result-is tt
    ]
