use Rattle.std.proofs.Common.{arith, ap, ◌∙◌}
use Rattle.queue_model.specs.declared.steps.Step.{Step}
use Rattle.link_core.specs.Kept.{table_in}
use Rattle.link_core.specs.Steps.{shown}
use Rattle.link_core.proofs.Bounds.{gives_back, depth_bounds}
use Rattle.link_core.proofs.store.Store.word_after.Goals as goal

pub overflow_add-result-in-GiveBack : goal.overflow_add-result-in-GiveBack
overflow_add-result-in-GiveBack c =
    let b = depth_bounds _ _ c.args.caller _ c.requires.kept.stands (gives_back _ c.args.caller _ _ c.in-GiveBack.is c.requires.fits) in
    record { fits = omega (arith, b.0, b.1) }

pub overflow_sub-result : goal.overflow_sub-result
overflow_sub-result c =
    let b = depth_bounds _ _ c.args.caller _ c.requires.kept.stands (gives_back _ c.args.caller _ _ c.in-GiveBack.is c.requires.fits) in
    omega (arith, b.0, c.shown-found.ensures ∙ ap (λ (s : Step). shown (table_in c.args.self.now) s) c.in-GiveBack.is)
