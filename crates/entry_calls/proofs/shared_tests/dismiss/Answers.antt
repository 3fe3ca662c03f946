use Rattle.std.proofs.Common.{ℕ, ◌+◌, List, ◌++◌, refl, ap, ◌∙◌}
use Rattle.entry_table.specs.declared.view.View.{View}
use Rattle.entry_table.specs.Passes.{callers}
use Rattle.entry_calls.proofs.Closable.{every_more}
use Rattle.entry_calls.proofs.shared_tests.dismiss.Goals as goal

pub returns-clause-every : goal.returns-clause-every
returns-clause-every c =
    let number = c.args.number in
    let boss = callers c.args.boss.now in
    every_more (number + 1) number boss (callers c.join.new.into) refl (ap (λ (v : View). v.callers) c.join.ensures.joined.view ∙ ap (λ (l : List ℕ). boss ++ l) c.requires.worker.0) c.requires.every
